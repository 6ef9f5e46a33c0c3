use Rattle.std.proofs.Common.{subst}
use Rattle.oz_requests.specs.declared.request.AskId.{AskId}
use Rattle.oz_asker.specs.Decided.{IsDecideAt}
use Rattle.oz_underway.specs.laws.Granted.{decided_reply}
use Rattle.oz_underway.proofs.laws.a_reply_comes_where_no_more_is_said.Goals as goal

pub returns : goal.returns
returns g c coherent base seen later line asked said place command progress reply id way idle unread from first begins all last is behind decided =
    let O = g.O.Opened in
    decided_reply O.coherent O.opening O.bytes O.script seen later base line asked said place command progress reply coherent way idle unread all begins from first last behind
    (subst (λ (i : AskId). IsDecideAt later place i reply) is decided)
