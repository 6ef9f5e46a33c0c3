use Rattle.std.proofs.Common.{◌≡◌, ◌||◌, take}
use Rattle.std.specs.List.{list_any}
use Rattle.oz_effects.specs.changes.Steps.{holds}
use Rattle.oz_fields.specs.declared.block.Block.{Block}
use Rattle.oz_reclaim.specs.sweep.Filing.{keeps}
use Rattle.oz_rows.specs.RowMaps.{row_of}
use Rattle.oz_reclaim.proofs.sweep.kept.add_live.Given as goal

abbrev pub invariant-loop-entry : goal.invariant-loop-entry
invariant-loop-entry l = (block : Block) → holds l.blocks block ≡ (holds l.fn.blocks block || list_any (keeps (row_of l.durable.rows) block) (take l.entry-index l.found))
