use Rattle.std.specs.Prelude.{IfErr}
use Rattle.std.proofs.Common.{sym, subst}
use Rattle.oz_dellog.specs.Log.{is_done}
use Rattle.oz_scm.specs.grants.Made.{log_of}
use Rattle.oz_scm_events.specs.Noted.{IsNoteRefusal}
use Rattle.oz_scm_events.proofs.retiring.ScmCell+D+Ledger+O+O+R.retire.Goals as goal

pub returns-clause-refused : goal.returns-clause-refused
returns-clause-refused g c =
    subst (λ l. IfErr c.retired-answer.result (IsNoteRefusal l (is_done (log_of c.args.self.now.scm.made) c.args.txn))) (sym c.show.ensures.same.1) c.retired-answer.ensures.refused
