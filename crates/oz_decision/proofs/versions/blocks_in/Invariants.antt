use Rattle.std.proofs.Common.{◌≡◌, take}
use Rattle.oz_model.specs.Reach.{blocks_of}
use Rattle.oz_decision.proofs.versions.blocks_in.Given as goal

abbrev pub invariant-loop-piece : goal.invariant-loop-piece
invariant-loop-piece l = l.blocks.items ≡ blocks_of (take l.piece-index l.pieces)
