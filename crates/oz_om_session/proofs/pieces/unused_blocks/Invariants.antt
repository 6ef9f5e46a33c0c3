use Rattle.std.proofs.Common.{◌≡◌, filter, take, not}
use Rattle.oz_fields.specs.declared.block.Block.{Block}
use Rattle.oz_model.specs.Buckets.{has_block}
use Rattle.oz_model.specs.Reach.{blocks_of}
use Rattle.oz_om_session.proofs.pieces.unused_blocks.Given as goal

abbrev pub invariant-loop-block : goal.invariant-loop-block
invariant-loop-block l = l.left.items ≡ filter (λ (block : Block). not (has_block (blocks_of l.pieces) block)) (take l.block-index l.blocks)
