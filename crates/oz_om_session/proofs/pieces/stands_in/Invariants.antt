use Rattle.std.proofs.Common.{◌≡◌, drop}
use Rattle.oz_model.specs.Buckets.{has_block}
use Rattle.oz_model.specs.Reach.{blocks_of}
use Rattle.oz_om_session.proofs.pieces.stands_in.Given as goal

abbrev pub invariant-loop-piece : goal.invariant-loop-piece
invariant-loop-piece l = has_block (blocks_of (drop l.piece-index l.pieces)) l.block ≡ has_block (blocks_of l.pieces) l.block
