use Rattle.oz_scm.proofs.Logs.{begun_kept}
use Rattle.oz_scm.proofs.grants.containers.Containers.new.Goals as goal

pub invariant_of-result : goal.invariant_of-result
invariant_of-result c = begun_kept c.args.nodes _ _ c.new-3.result c.requires.least c.requires.most c.new.ensures.items c.new-2.ensures.items c.new-3.ensures
