use Rattle.std.proofs.Common.{rules, ◌≡◌, ◌-◌, length, subst, arith}
use Rattle.oz_running.specs.Jobs.{AreJobs}
use Rattle.oz_running.proofs.staff.seat_all.Goals as goal

pub returns-in-Ok-clause-staff : goal.returns-in-Ok-clause-staff
returns-in-Ok-clause-staff g c = record {
  count = search rules;
  of_workers =
      let count : length c.in_ok-flusher.field-0.workers.items ≡ c.args.workers = omega (arith, c.in_ok-flusher.ensures.worker_count, c.requires.count) in
      subst (λ n. AreJobs n c.in_ok-jobs.jobs.items) count c.in_ok-jobs.ensures.jobs;
  first = search rules;
  second = search rules;
  caller = search rules;
  absent_count = search rules;
  absent_seats = search rules;
  none = search rules;
  fits = search rules;
}
