use Rattle.std.proofs.Common.{◌≤◌, length}
use Rattle.oz_om.proofs.finding.decided_behind.Given as goal

abbrev pub invariant-loop-place : goal.invariant-loop-place
invariant-loop-place l = record {
  within : l.place ≤ length l.story;
}

abbrev pub decreases-loop-place : goal.decreases-loop-place
decreases-loop-place l = l.place
