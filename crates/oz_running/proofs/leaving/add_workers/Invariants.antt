use Rattle.std.proofs.Common.{◌≡◌, ◌+◌, ◌≤◌, length, vec_capacity}
use Rattle.oz_core.specs.Seats.{first_worker_seat}
use Rattle.oz_running.specs.Jobs.{AreJobs}
use Rattle.oz_running.specs.Seats.{AddsReady}
use Rattle.oz_running.proofs.leaving.add_workers.Given as goal

-- those of the first seats are back
abbrev pub invariant-loop-job : goal.invariant-loop-job
invariant-loop-job g l = record {
  left : AreJobs (length l.fn.jobs.items) l.jobs.items;
  few : length l.jobs.items ≤ length l.fn.jobs.items;
  count : length l.all.items + length l.jobs.items ≡ first_worker_seat + length l.fn.jobs.items;
  room : first_worker_seat + length l.fn.jobs.items ≤ vec_capacity l.all;
  added : AddsReady g.R.Ring.turn l.fn.all.items l.all.items;
}

abbrev pub decreases-loop-job : goal.decreases-loop-job
decreases-loop-job g l = length l.jobs.items
