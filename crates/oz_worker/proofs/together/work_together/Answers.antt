use Rattle.std.proofs.Common.{rules}
use Rattle.std.proofs.lemmas.List.{same_lists}
use Rattle.oz_worker.proofs.together.work_together.Goals as goal

pub returns : goal.returns
returns g c =
    same_lists c.for_each_mut.new.s c.args.jobs.now c.for_each_mut.auto.s
    (λ i d lt. search rules)
