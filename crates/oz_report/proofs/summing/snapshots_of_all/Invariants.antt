use Rattle.std.proofs.Common.{◌≡◌, length}
use Rattle.std.specs.List.{sum_by}
use Rattle.oz_report.proofs.summing.snapshots_of_all.Given as goal

abbrev pub invariant-loop-bucket : goal.invariant-loop-bucket
invariant-loop-bucket l = l.snapshots ≡ sum_by (λ bucket. length bucket.now.snapshots) l.yielded
