use Rattle.oz_node_admin.specs.Seats.{OnlyLooked}
use Rattle.oz_service.proofs.deleting.sending.send_all.Given as goal

-- the seat has only looked so far
abbrev pub invariant-loop-due : goal.invariant-loop-due
invariant-loop-due g l = OnlyLooked g.R.Ring.turn l.fn.seat l.seat
