use Rattle.oz_node_admin.specs.Seats.{OnlyLooked}
use Rattle.oz_service.proofs.deleting.sending.send_each.Given as goal

-- the seat has only looked so far
abbrev pub invariant-loop-dn : goal.invariant-loop-dn
invariant-loop-dn g l = OnlyLooked g.R.Ring.turn l.fn.seat l.seat
