use Rattle.std.specs.Prelude.{IfErr}
use Rattle.std.proofs.Common.{sym, subst}
use Rattle.oz_scm.specs.grants.Made.{may_ack}
use Rattle.oz_scm_events.specs.Noted.{IsNoteRefusal}
use Rattle.oz_scm_events.proofs.acking.ScmCell+D+Ledger+O+O+R.ack.Goals as goal

pub returns-clause-refused : goal.returns-clause-refused
returns-clause-refused g c =
    subst (λ l. IfErr c.acked-answer.result (IsNoteRefusal l (may_ack c.args.self.now.scm.made c.args.txn c.args.dn))) (sym c.show.ensures.same.1) c.acked-answer.ensures.refused
