use Rattle.std.proofs.Common.{All, take}
use Rattle.oz_core.specs.Seats.{service_seat}
use Rattle.oz_om.specs.Shown.{HasSeen}
use Rattle.oz_turn.specs.Seat.{seen_of}
use Rattle.oz_service.specs.Purges.{IsInLog}
use Rattle.oz_service.proofs.pass.logging.log_txns.Given as goal

-- the transactions so far are logged
abbrev pub invariant-loop-txn : goal.invariant-loop-txn
invariant-loop-txn g l = record {
  shown : HasSeen g.R.Ring.turn g.O.Opened.coherent g.O.Opened.opening g.O.Opened.bytes g.O.Opened.script service_seat l.fn.seat l.seat;
  logged : All (IsInLog (seen_of l.seat)) (take l.txn-index l.txns);
}
