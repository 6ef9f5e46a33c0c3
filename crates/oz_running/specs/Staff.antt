-- For private calls: what a run is made of before its threads start.
use Rattle.std.specs.Prelude.{◌≡◌, ℕ, ◌+◌, ◌≤◌, List, [], length, vec_capacity}
use Rattle.oz_core.specs.declared.event.Event.{Event}
use Rattle.oz_core.specs.Seats.{caller_seat, datanode_seat, first_worker_seat, flusher_seat, service_seat}
use Rattle.oz_nodes.specs.declared.nodes.TheConstants.{MOST_NODES}
use Rattle.oz_running.specs.Jobs.{AreJobs}
use Rattle.oz_running.specs.Seats.{AreNewFrom}
use Rattle.oz_running.specs.declared.staff.Quiet.{Quiet}
use Rattle.oz_turn.specs.declared.seat.Seat.{Seat}
use Rattle.oz_turn.specs.declared.told.Told.{Ghosts}
use Rattle.oz_turn.specs.Ring.{TurnId}
use Rattle.oz_turn.specs.Seat.{IsNewSeat}
use Rattle.oz_worker.specs.declared.job.Job.{Job}

-- Of a turn, with so many workers and so many datanodes: the jobs; the new seats of the flusher, of the service job, of the caller and of
-- the datanodes that aren't there; and the list that all seats came in, empty, with room for them.
pub record IsStaff {T O R A : Type 0} {told : Ghosts A Event} (turn : TurnId) (workers nodes : ℕ) (jobs : List (Job T O R))
    (flusher service : Seat A Event told) (quiet : Quiet A told) : Type 0 where
  pub count : length jobs ≡ workers + 1
  pub of_workers : AreJobs workers jobs
  pub first : IsNewSeat turn flusher_seat flusher
  pub second : IsNewSeat turn service_seat service
  pub caller : IsNewSeat turn caller_seat quiet.caller
  pub absent_count : nodes + length quiet.absent.items ≡ MOST_NODES
  pub absent_seats : AreNewFrom turn (datanode_seat nodes) quiet.absent.items
  pub none : quiet.all.items ≡ []
  pub fits : first_worker_seat + workers ≤ vec_capacity quiet.all
