use Rattle.std.specs.Prelude.{IfErr}
use Rattle.std.proofs.Common.{sym, subst}
use Rattle.oz_scm_events.specs.Granted.{IsRefusal}
use Rattle.oz_scm_events.proofs.granting.ScmCell+D+Ledger+O+O+R.grant.Goals as goal

pub returns-clause-refused : goal.returns-clause-refused
returns-clause-refused g c =
    subst (λ l. IfErr c.granted-answer.result (IsRefusal g.O.Opened.opening l c.args.exclude.now)) (sym c.show.ensures.same.1) c.granted-answer.ensures.refused
