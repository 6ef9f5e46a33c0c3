use Rattle.std.proofs.Common.{◌≡◌, Option, Some, sym, subst}
use Rattle.std.specs.Prelude.{IfSome}
use Rattle.oz_om.specs.Served.{IsServed}
use Rattle.oz_requests.specs.declared.request.Request.{Request}
use Rattle.oz_turn.specs.Seat.{seen_of}
use Rattle.oz_service.specs.Pass.{ServiceView}
use Rattle.oz_service.proofs.pass.service.Service+Ledger+O+O+R.ask.Goals as goal

pub returns-clause-served : goal.returns-clause-served
returns-clause-served g c = λ coherent.
    let opening = g.O.Opened.opening in
    let before = seen_of c.self.inside.seat in
    let after = seen_of c.ask_at.new.seat in
    let index = c.in_ok-index.index in
    let one = c.in-Some.is in
    let two = c.in_ok-copy.ensures in
    let is : c.self.inside.waiting ≡ Some c.in_ok-copy.copy = cc in
    subst (λ (v : ServiceView). IfSome v.waiting (λ request. IsServed opening v.seen after request index)) c.self.view_is
    (subst (λ (o : Option Request). IfSome o (λ request. IsServed opening before after request index)) (sym is) (c.in_ok-index.ensures.served coherent))
