use Rattle.std.proofs.Common.{◌↔◌, IsTrue, IfOk, sym, subst}
use Rattle.oz_core.specs.Law.{KindIsEnabled}
use Rattle.oz_legal.proofs.enabling.of_scm_is_enabled.Goals as goal

pub returns-in-AckDel : goal.returns-in-AckDel
returns-in-AckDel c =
    subst (λ kind. IfOk c.ack_del_is_enabled.result (λ is. IsTrue is ↔ KindIsEnabled c.args.opening.now c.args.story.now c.args.seat kind))
    (sym c.in-AckDel.is) c.ack_del_is_enabled.ensures
