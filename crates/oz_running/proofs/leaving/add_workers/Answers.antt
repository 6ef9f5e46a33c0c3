use Rattle.std.proofs.Common.{rules, ◌≡◌, ◌+◌, ◌≤◌, ◌<◌, ◌∙◌, length, vec_capacity, sym, subst, arith}
use Rattle.oz_core.specs.Seats.{first_worker_seat}
use Rattle.oz_running.specs.Jobs.{job_at}
use Rattle.oz_running.proofs.Jobs.{adds_more, seat_there}
use Rattle.oz_running.proofs.Placed.{front_of, last_of, one_more}
use Rattle.oz_turn.specs.Seat.{IsReady}
use Rattle.oz_running.proofs.leaving.add_workers.Goals as goal

pub loop-job-preserved : goal.loop-job-preserved
loop-job-preserved g c =
    let i = c.loop-job.invariant in
    let popped = c.in-Some.ensures.items in
    let workers = length c.args.jobs.items in
    let more = one_more c.loop-job.jobs.items c.pop.new.self.items c.in-Some.job popped in
    let pushed = one_more c.push_reserved.new.self.items c.loop-job.all.items c.into_seat.result c.push_reserved.ensures.items in
    let less : length c.pop.new.self.items < workers = omega (arith, more, i.few) in
    let there = last_of (λ place job. job ≡ job_at workers place) c.loop-job.jobs.items c.pop.new.self.items c.in-Some.job popped i.left in
    let number = seat_there workers (length c.pop.new.self.items) c.in-Worker.worker less (sym c.in-Worker.is ∙ there) in
    let at : c.in-Worker.worker.number ≡ length c.loop-job.all.items = omega (arith, number, more, less, i.count) in
    let ready : IsReady g.R.Ring.turn (length c.loop-job.all.items) c.into_seat.result = subst (λ n. IsReady g.R.Ring.turn n c.into_seat.result) at c.into_seat.ensures in
    let room : first_worker_seat + workers ≤ vec_capacity c.push_reserved.new.self = search rules in record {
      left = front_of (λ place job. job ≡ job_at workers place) c.loop-job.jobs.items c.pop.new.self.items _ popped i.left;
      few = omega (arith, more, i.few);
      count = omega (arith, pushed, more, i.count);
      room = room;
      added = adds_more g.R.Ring.turn c.args.all.now.items c.loop-job.all.items c.push_reserved.new.self.items c.into_seat.result i.added c.push_reserved.ensures.items ready;
    }
