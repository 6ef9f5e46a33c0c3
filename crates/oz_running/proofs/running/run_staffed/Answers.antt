use Rattle.std.proofs.Common.{rules, ◌≡◌, ◌-◌, ◌∙◌, length, vec_len, sym, ap, subst, arith}
use Rattle.oz_running.specs.Jobs.{AreJobs}
use Rattle.oz_running.proofs.Placed.{lent}
use Rattle.oz_running.proofs.running.run_staffed.Goals as goal

pub all_leave-left-requires-clause-jobs : goal.all_leave-left-requires-clause-jobs
all_leave-left-requires-clause-jobs g c =
    let count : c.args.staff.jobs.len ≡ length c.args.staff.jobs.items = search rules in
    let back = lent c.args.staff.jobs.items c.work.new.jobs c.args.staff.jobs.len (c.work.ensures ∙ c.as_mut_slice.ensures.value) count in
    let workers : c.args.workers ≡ length c.args.staff.jobs.items - 1 = omega (arith, c.requires.staff.count) in
    subst (λ l. AreJobs (length l - 1) l) (sym back) (subst (λ n. AreJobs n c.args.staff.jobs.items) workers c.requires.staff.of_workers)

pub ended-requires-clause-count : goal.ended-requires-clause-count
ended-requires-clause-count g c =
    let count : c.args.staff.jobs.len ≡ length c.args.staff.jobs.items = search rules in
    let back = lent c.args.staff.jobs.items c.work.new.jobs c.args.staff.jobs.len (c.work.ensures ∙ c.as_mut_slice.ensures.value) count in
    let same = ap length back in
    let all : vec_len c.all_leave-left.result.seats ≡ length c.all_leave-left.result.seats.items = search rules in
    omega (arith, all, c.all_leave-left.ensures.count, same, c.requires.staff.count, c.requires.all)

pub all_leave-left-requires-clause-some : goal.all_leave-left-requires-clause-some
all_leave-left-requires-clause-some g c =
    let count : c.args.staff.jobs.len ≡ length c.args.staff.jobs.items = search rules in
    let back = lent c.args.staff.jobs.items c.work.new.jobs c.args.staff.jobs.len (c.work.ensures ∙ c.as_mut_slice.ensures.value) count in
    let same = ap length back in
    omega (arith, same, c.requires.staff.count, c.requires.all)

pub all_leave-left-requires-clause-room : goal.all_leave-left-requires-clause-room
all_leave-left-requires-clause-room g c =
    let count : c.args.staff.jobs.len ≡ length c.args.staff.jobs.items = search rules in
    let back = lent c.args.staff.jobs.items c.work.new.jobs c.args.staff.jobs.len (c.work.ensures ∙ c.as_mut_slice.ensures.value) count in
    let same = ap length back in
    omega (arith, same, c.requires.staff.count, c.requires.all, c.requires.staff.fits)
