use Rattle.std.proofs.Common.{sym, subst}
use Rattle.oz_turn.specs.Seat.{seen_of}
use Rattle.oz_service.specs.Sending.{MayBeSent}
use Rattle.oz_service.proofs.Sending.{may_later}
use Rattle.oz_service.proofs.deleting.sending.send_all.Goals as goal

pub send_or_retire-requires-clause-may : goal.send_or_retire-requires-clause-may
send_or_retire-requires-clause-may g c = λ coherent.
    let due = c.due-item.result in
    may_later g.O.Opened.opening (seen_of c.args.seat.now) (seen_of c.loop-due.seat) due c.loop-due.invariant.begins
    (subst (MayBeSent g.O.Opened.opening (seen_of c.args.seat.now)) (sym c.due-item.is) (c.requires.may coherent c.loop-due.due-index due c.loop-due-test.true))
