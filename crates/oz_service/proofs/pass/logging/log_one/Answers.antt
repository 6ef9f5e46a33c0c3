use Rattle.oz_turn.specs.Seat.{seen_of}
use Rattle.oz_service.proofs.Logging.{told_in}
use Rattle.oz_service.proofs.pass.logging.log_one.Goals as goal

pub returns-clause-logged : goal.returns-clause-logged
returns-clause-logged g c =
    let its = c.log_txn.ensures in
    let was = c.args.scm.now in
    told_in was.scm.stopped was.mine c.log_txn.new.self.mine (seen_of c.log_txn.new.seat) c.args.txn.now c.log_txn.result (g.D.Disk.faults was.scm.disk) its.own
    (λ stopped. (its.halted stopped).1) its.shown
