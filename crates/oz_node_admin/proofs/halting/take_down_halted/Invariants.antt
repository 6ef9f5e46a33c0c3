use Rattle.oz_turn.specs.Seat.{seen_of}
use Rattle.oz_node_admin.specs.Halts.{AreDown}
use Rattle.oz_node_admin.specs.Seats.{OnlyLooked}
use Rattle.oz_node_admin.proofs.halting.take_down_halted.Given as goal

-- those that were looked at are down, where they had halted
abbrev pub invariant-loop-dn : goal.invariant-loop-dn
invariant-loop-dn g l = record {
  down : AreDown g.O.Opened.coherent l.dn (seen_of l.fn.seat) (seen_of l.seat);
  looked : OnlyLooked g.R.Ring.turn l.fn.seat l.seat;
}
