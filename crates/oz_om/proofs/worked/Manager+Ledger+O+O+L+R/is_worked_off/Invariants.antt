use Rattle.std.proofs.Common.{◌≡◌}
use Rattle.oz_turn.specs.Seat.{IsReady, mine_of, room_of, seen_of}
use Rattle.oz_turn.specs.Told.{BeginsWith}
use Rattle.oz_om.specs.Worked.{WereWorkedOff}
use Rattle.oz_om.proofs.worked.Manager+Ledger+O+O+L+R.is_worked_off.Given as goal

-- each stripe that was looked at was worked off
abbrev pub invariant-loop-stripe : goal.invariant-loop-stripe
invariant-loop-stripe g l = record {
  ready : IsReady g.R.Ring.turn l.by l.seat;
  room : room_of l.seat ≡ room_of l.fn.seat;
  mine : mine_of l.seat ≡ mine_of l.fn.seat;
  goes_on : BeginsWith (seen_of l.seat) (seen_of l.fn.seat);
  were : g.O.Opened.coherent → WereWorkedOff g.O.Opened.opening g.L.Loaded.rows l.stripe (seen_of l.fn.seat) (seen_of l.seat);
}
