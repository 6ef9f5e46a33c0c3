use Rattle.oz_scm.specs.declared.grants.entry.Entry.TheVariants as entries
use Rattle.oz_scm.proofs.Sizes.{is_frame}
use Rattle.oz_scm.proofs.planning.plan_grant.Goals as goal

pub returns-clause-frame : goal.returns-clause-frame
returns-clause-frame c = is_frame (entries.Granted c.args.stripe c.args.grant.now) _ _ _ tt c.in_ok-body.ensures c.deref.ensures.value c.in_ok-frame.ensures.body c.in_ok-frame.ensures.size
