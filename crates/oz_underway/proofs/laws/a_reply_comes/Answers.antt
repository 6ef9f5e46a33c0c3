use Rattle.std.proofs.Common.{subst}
use Rattle.oz_requests.specs.declared.request.AskId.{AskId}
use Rattle.oz_asker.specs.Decided.{IsDecideAt}
use Rattle.oz_underway.specs.laws.UnderWay.{reply_comes}
use Rattle.oz_underway.proofs.laws.a_reply_comes.Goals as goal

pub returns : goal.returns
returns g c coherent seen later line asked said now place command progress reply id way idle unread written no_grant begins all is decided =
    let O = g.O.Opened in
    reply_comes O.coherent O.opening O.bytes O.script seen later line asked said command progress reply coherent way idle unread written no_grant all begins place now
    (subst (λ (i : AskId). IsDecideAt later place i reply) is decided)
