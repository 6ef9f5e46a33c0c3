use Rattle.std.proofs.Common.{◌≡◌}
use Rattle.oz_worker.proofs.together.each_goes_on.Given as goal

abbrev pub invariant-loop-job : goal.invariant-loop-job
invariant-loop-job g l = l.jobs ≡ l.fn.jobs
