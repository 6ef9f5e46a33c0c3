use Rattle.std.proofs.Common.{◌≡◌}
use Rattle.std.specs.List.{sum_by}
use Rattle.oz_report.specs.Summary.{bytes_in}
use Rattle.oz_report.proofs.summing.bytes_of_all.Given as goal

abbrev pub invariant-loop-bucket : goal.invariant-loop-bucket
invariant-loop-bucket l = l.bytes ≡ sum_by (λ bucket. bytes_in bucket.now) l.yielded
