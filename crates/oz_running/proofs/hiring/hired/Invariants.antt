use Rattle.std.proofs.Common.{◌≡◌, ◌+◌, ◌≤◌, length, vec_capacity}
use Rattle.oz_core.specs.Seats.{first_worker_seat}
use Rattle.oz_running.specs.Jobs.{AreJobs}
use Rattle.oz_running.specs.Seats.{AreNewFrom}
use Rattle.oz_running.proofs.hiring.hired.Given as goal

-- those of the last seats are hired
abbrev pub invariant-loop-seat : goal.invariant-loop-seat
invariant-loop-seat g l = record {
  left : AreNewFrom g.R.Ring.turn first_worker_seat l.seats.items;
  hired : AreJobs l.workers l.jobs.items;
  count : length l.jobs.items + length l.seats.items ≡ l.workers;
  all : l.workers ≡ length l.fn.seats.items;
  few : l.workers ≤ 16;
  room : l.workers + 1 ≤ vec_capacity l.jobs;
}

abbrev pub decreases-loop-seat : goal.decreases-loop-seat
decreases-loop-seat g l = length l.seats.items
