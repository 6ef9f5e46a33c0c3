-- That what was loaded from the manager's disk is what a run has opened.
use Rattle.std.specs.Prelude.{◌≡◌, ◌↔◌, ℕ, List}
use Rattle.oz_core.specs.declared.event.Event.{Event}
use Rattle.oz_core.specs.declared.opening.Opening.{Opening}
use Rattle.oz_core.specs.Contents.{OpeningBytes}
use Rattle.oz_decision.specs.Meets.{AreInGrammar}
use Rattle.oz_rows.specs.RowMaps.{Rows}
use Rattle.oz_sound.specs.Sound.{RenamesAreSound}
use Rattle.oz_store.specs.Store.{IsStore}
use Rattle.oz_om.specs.Keeps.{KeepsRows}

-- The rows that were loaded are in the grammar, and their last index is the opening's. Where the opening is coherent
-- they are sound, in what renamed rows say too, and stand for its namespace, and all disks agree with them.
pub record Opens (Coherent : Type 0) (opening : Opening) (bytes : OpeningBytes) (rows : Rows) (last_index : ℕ)
    (Agrees : Type 0) (Keeps : ℕ → List Event → List Event → Rows → Type 0) : Type 0 where
  pub last : last_index ≡ opening.last_index
  pub fit : AreInGrammar rows
  pub store : Coherent → IsStore rows opening bytes
  pub renames : Coherent → RenamesAreSound rows
  -- What the stripes keep is what the manager rests on.
  pub agrees : Coherent ↔ Agrees
  pub keeps : (stripe : ℕ) (mine seen : List Event) (now : Rows)
      → Keeps stripe mine seen now ↔ KeepsRows Coherent opening rows stripe mine seen now
