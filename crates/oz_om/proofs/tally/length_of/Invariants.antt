use Rattle.std.proofs.Common.{◌≡◌, take}
use Rattle.oz_om.specs.Tallies.{length_of}
use Rattle.oz_om.proofs.tally.length_of.Given as goal

abbrev pub invariant-loop-piece : goal.invariant-loop-piece
invariant-loop-piece l = l.length ≡ length_of (take l.piece-index l.pieces)
