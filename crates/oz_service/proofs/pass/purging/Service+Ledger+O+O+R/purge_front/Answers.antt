use Rattle.oz_service.proofs.Purged.{front_logged, front_purged, taken_up}
use Rattle.oz_service.proofs.pass.purging.Service+Ledger+O+O+R.purge_front.Goals as goal

pub take_up-requires-clause-logged : goal.take_up-requires-clause-logged
take_up-requires-clause-logged g c = λ coherent.
    front_logged c.args.rows.now c.in_ok-request.field-0 c.in_ok-request.ensures c.args.self.now.seen (c.requires.may coherent)

pub returns-clause-purged : goal.returns-clause-purged
returns-clause-purged g c = λ coherent.
    front_purged g.O.Opened.opening c.args.rows.now c.in_ok-request.field-0 c.in_ok-request.ensures c.args.self.now c.take_up.new.self c.ask.new.self
    (taken_up c.take_up.result c.args.self.now c.take_up.new.self c.in_ok-request.field-0.request c.take_up.ensures.taken c.if-not-take_up.false)
    c.in_ok-ask.field-0 (c.in_ok-ask.ensures.served coherent) c.in_ok-ask.ensures.purged
