use Rattle.std.proofs.Common.{length}
use Rattle.std.proofs.lemmas.Bool.{and_parts, leb-true}
use Rattle.oz_scm.specs.declared.grants.entry.Entry.TheVariants as entries
use Rattle.oz_scm.proofs.Sizes.{is_frame}
use Rattle.oz_scm.proofs.planning.plan_log.Goals as goal

pub returns-clause-frame : goal.returns-clause-frame
returns-clause-frame c =
    is_frame (entries.Logged c.args.txn.now) _ _ _ (leb-true (length c.args.txn.now.locals) 1024 (and_parts _ _ c.requires.count_is).1)
    c.in_ok-body.ensures c.deref.ensures.value c.in_ok-frame.ensures.body c.in_ok-frame.ensures.size
