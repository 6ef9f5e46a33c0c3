-- What a look at a stripe's deleted rows found, and that a stripe was swept behind the start of a drain.
use Rattle.std.specs.Prelude.{◌≡◌, ℕ, ◌<◌, true, false, List, ◌++◌, length, Some, Contains}
use Rattle.oz_fields.specs.declared.block.Block.{Block}
use Rattle.oz_locks.specs.Reclaims.{AreFound}
use Rattle.oz_names.specs.declared.limits.TheConstants.{STRIPES}
use Rattle.oz_reclaim.specs.declared.sweep.found.Found.{Found}
use Rattle.oz_reclaim.specs.sweep.Found.{keyed}
use Rattle.oz_rows.specs.declared.key.RowKey.{RowKey}
use Rattle.oz_rows.specs.declared.row.Row.TheVariants as rows
use Rattle.oz_rows.specs.RowMaps.{Rows}
use Rattle.oz_core.specs.declared.event.Event.{Event}
use Rattle.oz_core.specs.declared.opening.Opening.{Opening}
use Rattle.oz_core.specs.Manager.{IsGarbage}
use Rattle.oz_core.specs.Scm.{is_logged}
use Rattle.oz_owned.specs.Own.{IsOwn}

-- Beside these pins all deleted rows were found that may go, and no row has pinned blocks and others that keep it from going.
pub record HasFoundAll (all : Rows) (pins : List Block) (found : Found) : Type 0 where
  pub most : ℕ
  pub are : AreFound all pins most found
  pub fewer : length found.rows.items < most
  pub whole : found.is_partly_pinned ≡ false

-- each block of the rows that were found was let go
abbrev pub AreLetGo : Rows → Found → (Block → Type 0) → Type 0
AreLetGo all found IsLet =
    (row : RowKey × ℕ) (blocks : List Block) (block : Block) → Contains found.rows.items row
    → all (keyed row) ≡ Some (rows.Deleted blocks) → Contains blocks block → IsLet block

-- At a front behind the start the stripe was looked through: each block of its own that was garbage there is logged now.
pub record IsSweptBehind (opening : Opening) (loaded : Rows) (stripe : ℕ) (start story : List Event) : Type 0 where
  pub between : List Event
  pub behind : List Event
  pub parts : story ≡ (start ++ between) ++ behind
  pub logged : (block : Block) → IsOwn loaded stripe (start ++ between) block
      → IsGarbage opening (start ++ between) block → is_logged opening story block ≡ true

-- each stripe was
abbrev pub AreSweptBehind : Opening → Rows → List Event → List Event → Type 0
AreSweptBehind opening loaded start story =
    (stripe : ℕ) → stripe < STRIPES → IsSweptBehind opening loaded stripe start story
