use Rattle.std.proofs.Common.{◌≡◌, ◌||◌, take}
use Rattle.std.specs.List.{list_any}
use Rattle.oz_effects.specs.changes.Steps.{holds}
use Rattle.oz_fields.specs.declared.block.Block.{Block}
use Rattle.oz_reclaim.specs.Shown.{shows}
use Rattle.oz_reclaim.proofs.reaching.add_shown.Given as goal

abbrev pub invariant-loop-entry : goal.invariant-loop-entry
invariant-loop-entry g l = (block : Block) → holds l.blocks block ≡ (holds l.fn.blocks block || list_any (shows (g.M.RowMap.rows l.rows) block) (take l.entry-index l.found))
