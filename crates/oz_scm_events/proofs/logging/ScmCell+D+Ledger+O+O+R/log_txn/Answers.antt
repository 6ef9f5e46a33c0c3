use Rattle.std.specs.Prelude.{IfErr}
use Rattle.std.proofs.Common.{sym, subst}
use Rattle.oz_scm.specs.grants.Made.{may_log}
use Rattle.oz_scm_events.specs.Noted.{IsNoteRefusal}
use Rattle.oz_scm_events.proofs.logging.ScmCell+D+Ledger+O+O+R.log_txn.Goals as goal

pub returns-clause-refused : goal.returns-clause-refused
returns-clause-refused g c =
    subst (λ l. IfErr c.logged-answer.result (IsNoteRefusal l (may_log c.args.self.now.scm.made c.args.txn.now))) (sym c.show.ensures.same.1) c.logged-answer.ensures.refused
