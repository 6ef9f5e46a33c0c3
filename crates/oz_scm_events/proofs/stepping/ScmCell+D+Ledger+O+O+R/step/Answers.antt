use Rattle.std.specs.Prelude.{IfErr}
use Rattle.std.proofs.Common.{sym, subst}
use Rattle.oz_scm_events.specs.Stepped.{IsStepRefusal}
use Rattle.oz_scm_events.proofs.stepping.ScmCell+D+Ledger+O+O+R.step.Goals as goal

pub returns-clause-refused : goal.returns-clause-refused
returns-clause-refused g c =
    subst (λ l. IfErr c.stepped-answer.result (IsStepRefusal g.O.Opened.opening l c.args.container c.args.event)) (sym c.show.ensures.same.1) c.stepped-answer.ensures.refused
