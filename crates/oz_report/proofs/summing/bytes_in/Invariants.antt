use Rattle.std.proofs.Common.{◌≡◌}
use Rattle.std.specs.List.{sum_by}
use Rattle.oz_report.specs.Summary.{length_of}
use Rattle.oz_report.proofs.summing.bytes_in.Given as goal

abbrev pub invariant-loop-pieces : goal.invariant-loop-pieces
invariant-loop-pieces l = l.bytes ≡ sum_by (λ pieces. length_of pieces.now) l.yielded
