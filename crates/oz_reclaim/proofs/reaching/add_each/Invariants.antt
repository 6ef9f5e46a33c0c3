use Rattle.std.proofs.Common.{◌≡◌, ◌||◌, take}
use Rattle.std.specs.List.{list_any}
use Rattle.oz_effects.specs.changes.Steps.{holds}
use Rattle.oz_fields.specs.declared.block.Block.{Block}
use Rattle.oz_rows.specs.RowMaps.{is_block}
use Rattle.oz_reclaim.proofs.reaching.add_each.Given as goal

abbrev pub invariant-loop-other : goal.invariant-loop-other
invariant-loop-other l = (block : Block) → holds l.blocks block ≡ (holds l.fn.blocks block || list_any (is_block block) (take l.other-index l.others))
