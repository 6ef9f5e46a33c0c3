use Rattle.std.proofs.Common.{ℕ, List, Contains, get_or, subst}
use Rattle.std.proofs.lemmas.List.Elements.{Contains-get_or}
use Rattle.oz_turn.specs.Seat.{seen_of}
use Rattle.oz_service.proofs.Sending.{may_apply, may_later}
use Rattle.oz_service.proofs.deleting.sending.send_each.Goals as goal

pub send_to-requires-clause-may : goal.send_to-requires-clause-may
send_to-requires-clause-may g c = λ coherent.
    let due = c.args.due.now in
    let dns = c.items-dn-items.result.now in
    let dn = get_or dns c.loop-dn.dn-index 0 in
    may_apply g.O.Opened.opening (seen_of c.loop-dn.seat) due dn
    (may_later g.O.Opened.opening (seen_of c.args.seat.now) (seen_of c.loop-dn.seat) due c.loop-dn.invariant.begins (c.requires.may coherent))
    (subst (λ (l : List ℕ). Contains l dn) c.items-dn-items.ensures (Contains-get_or dns c.loop-dn.dn-index 0 c.loop-dn-test.true))
