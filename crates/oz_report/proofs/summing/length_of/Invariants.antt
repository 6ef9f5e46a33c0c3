use Rattle.std.proofs.Common.{◌≡◌, take}
use Rattle.oz_report.specs.Summary.{length_of}
use Rattle.oz_report.proofs.summing.length_of.Given as goal

abbrev pub invariant-loop-piece : goal.invariant-loop-piece
invariant-loop-piece l = l.length ≡ length_of (take l.piece-index l.pieces)
