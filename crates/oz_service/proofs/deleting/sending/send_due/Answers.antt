use Rattle.std.proofs.Common.{All, rules, sym, subst}
use Rattle.std.specs.Prelude.{IfErr}
use Rattle.oz_turn.specs.Seat.{seen_of}
use Rattle.oz_service.specs.Sending.{IsSendFault, MayBeSent, NothingIsDue, WasSendFault}
use Rattle.oz_service.proofs.Entries.{no_items}
use Rattle.oz_service.proofs.Going.{begins_same, begins_then}
use Rattle.oz_service.proofs.Sending.{if_err, was_since}
use Rattle.oz_service.proofs.deleting.sending.send_due.Goals as goal

pub returns-in_err-dues-clause-fault : goal.returns-in_err-dues-clause-fault
returns-in_err-dues-clause-fault g c =
    let first = seen_of c.args.seat.now in
    let place = seen_of c.dues_at.new.seat in
    let now : IfErr c.from_residual.result (IsSendFault place) = search rules in
    if_err (IsSendFault place) (WasSendFault first place) c.from_residual.result
    (λ fault so. was_since (λ story. IsSendFault story fault) first place place c.dues_at.ensures.looked.begins (begins_same place) so) now

pub returns-then-is_empty-clause-idle : goal.returns-then-is_empty-clause-idle
returns-then-is_empty-clause-idle g c = λ coherent same.
    let place = seen_of c.dues_at.new.seat in
    let dues = c.in_ok-dues.dues in
    was_since (NothingIsDue g.O.Opened.opening) (seen_of c.args.seat.now) place place c.dues_at.ensures.looked.begins (begins_same place)
    (c.in_ok-dues.ensures.none coherent (no_items dues.items dues.len c.is_empty.result dues.ok.0 c.is_empty.ensures c.if-is_empty.true))

pub send_all-sent-requires-clause-may : goal.send_all-sent-requires-clause-may
send_all-sent-requires-clause-may g c = λ coherent.
    subst (All (MayBeSent g.O.Opened.opening (seen_of c.dues_at.new.seat))) (sym c.as_slice.ensures.value) (c.in_ok-dues.ensures.may coherent)

pub returns-in_err-taken-clause-fault : goal.returns-in_err-taken-clause-fault
returns-in_err-taken-clause-fault g c =
    let first = seen_of c.args.seat.now in
    let looked = seen_of c.dues_at.new.seat in
    let sent = seen_of c.send_all-sent.new.seat in
    let place = seen_of c.take_down-taken.new.seat in
    let since = begins_then first looked place c.dues_at.ensures.looked.begins
    (begins_then looked sent place c.send_all-sent.ensures.looked.begins c.take_down-taken.ensures.looked.begins) in
    let now : IfErr c.from_residual-in_err-taken.result (IsSendFault place) = search rules in
    if_err (IsSendFault place) (WasSendFault first place) c.from_residual-in_err-taken.result
    (λ fault so. was_since (λ story. IsSendFault story fault) first place place since (begins_same place) so) now
