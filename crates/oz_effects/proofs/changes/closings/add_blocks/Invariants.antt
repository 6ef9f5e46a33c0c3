use Rattle.std.proofs.Common.{◌≡◌, ◌++◌, take}
use Rattle.std.specs.List.{flat_map}
use Rattle.oz_effects.specs.changes.Steps.{freed_block, holds}
use Rattle.oz_effects.proofs.changes.closings.add_blocks.Given as goal

abbrev pub invariant-loop-block : goal.invariant-loop-block
invariant-loop-block l = l.changes.items ≡ l.fn.changes.items ++ flat_map (freed_block (holds l.free) l.volume l.bucket l.key) (take l.block-index l.blocks)
