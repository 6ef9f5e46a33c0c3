-- What may be missing on a datanode's disks of the blocks that it holds by the story.
use Rattle.std.specs.Prelude.{◌≡◌, ◌⊎◌, ℕ, ◌≤◌, true, List, Contains}
use Rattle.oz_fields.specs.declared.block.Block.{Block}
use Rattle.oz_script.specs.declared.lines.script.Script.{Script}
use Rattle.oz_core.specs.declared.event.Event.{Event}
use Rattle.oz_core.specs.declared.event.EventKind.TheVariants.{Wipe}
use Rattle.oz_core.specs.declared.event.Node.TheVariants.{Datanode}
use Rattle.oz_core.specs.declared.opening.Opening.{Opening}
use Rattle.oz_core.specs.declared.opening.Unretired.{Unretired}
use Rattle.oz_core.specs.Contents.{OpeningBytes}
use Rattle.oz_core.specs.Scm.{is_logged}
use Rattle.oz_kept.specs.reopened.Left.{NumbersAreApart}
use Rattle.oz_halted.specs.Further.{HasOneMore}

-- no two transactions of the log have one number, and none has one above the last
pub record LogIsNumbered (opening : Opening) : Type 0 where
  pub apart : NumbersAreApart opening
  pub below : (unretired : Unretired) → Contains opening.unretired unretired
      → unretired.txn.number ≤ opening.last_txn

-- the datanode halted and may have lost the block: its deletion is logged, or the further event is a Wipe
pub record MayHaveLost (opening : Opening) (bytes : OpeningBytes) (script : Script) (story : List Event) (dn : ℕ)
    (block : Block) : Type 0 where
  pub longer : List Event
  pub one_more : HasOneMore opening bytes script (Datanode dn) story longer
  pub why : (is_logged opening story block ≡ true) ⊎ (one_more.further ≡ Wipe dn)
