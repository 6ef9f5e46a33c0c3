use Rattle.std.proofs.Common.{◌≡◌, ◌||◌, take}
use Rattle.std.specs.List.{list_any}
use Rattle.oz_effects.specs.changes.Steps.{holds}
use Rattle.oz_fields.specs.declared.block.Block.{Block}
use Rattle.oz_reclaim.specs.sweep.Filing.{names_block}
use Rattle.oz_reclaim.proofs.sweep.marks.add_of_number.Given as goal

abbrev pub invariant-loop-entry : goal.invariant-loop-entry
invariant-loop-entry l = (block : Block) → holds l.blocks block ≡ (holds l.fn.blocks block || list_any (names_block l.number block) (take l.entry-index l.found))
