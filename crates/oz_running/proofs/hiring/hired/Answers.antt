use Rattle.std.proofs.Common.{rules, ◌≡◌, ◌+◌, ◌≤◌, ◌∙◌, length, vec_capacity, subst, arith}
use Rattle.oz_core.specs.Seats.{first_worker_seat}
use Rattle.oz_running.specs.Jobs.{AreJobs, job_at}
use Rattle.oz_running.proofs.Jobs.{flusher_there, worker_there}
use Rattle.oz_running.proofs.Placed.{front_of, one_more, with_last}
use Rattle.oz_turn.specs.Seat.{IsNewSeat}
use Rattle.oz_running.proofs.hiring.hired.Goals as goal

pub loop-seat-preserved : goal.loop-seat-preserved
loop-seat-preserved g c =
    let i = c.loop-seat.invariant in
    let more = one_more c.loop-seat.seats.items c.pop.new.self.items c.in-Some.seat c.in-Some.ensures.items in
    let pushed = one_more c.push_reserved.new.self.items c.loop-seat.jobs.items c.in_ok-hire.field-0 c.push_reserved.ensures.items in
    let rest : c.len-place.result ≡ length c.pop.new.self.items = search rules in
    let room : c.len-workers.result + 1 ≤ vec_capacity c.push_reserved.new.self = search rules in record {
      left = front_of (λ n s. IsNewSeat g.R.Ring.turn (first_worker_seat + n) s) c.loop-seat.seats.items c.pop.new.self.items _ c.in-Some.ensures.items i.left;
      hired = with_last (λ place job. job ≡ job_at c.len-workers.result place) c.push_reserved.new.self.items c.loop-seat.jobs.items c.in_ok-hire.field-0 c.push_reserved.ensures.items i.hired
          (c.in_ok-hire.ensures ∙ worker_there c.len-workers.result (length c.loop-seat.jobs.items) c.len-place.result (omega (arith, more, i.count, rest)));
      count = omega (arith, pushed, more, i.count);
      all = i.all;
      few = i.few;
      room = room;
    }

pub returns-clause-jobs : goal.returns-clause-jobs
returns-clause-jobs g c =
    let i = c.loop-seat.invariant in
    let none : length c.loop-seat.seats.items ≡ 0 = search rules in
    with_last (λ place job. job ≡ job_at (length c.args.seats.items) place) c.push_reserved-2.new.self.items c.loop-seat.jobs.items _ c.push_reserved-2.ensures.items
    (subst (λ n. AreJobs n c.loop-seat.jobs.items) i.all i.hired)
    (flusher_there (length c.args.seats.items) (length c.loop-seat.jobs.items) (omega (arith, none, i.count, i.all)))
