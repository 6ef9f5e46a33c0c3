use Rattle.std.proofs.Common.{◌≡◌}
use Rattle.oz_turn.specs.Seat.{IsReady, mine_of, room_of, seen_of}
use Rattle.oz_turn.specs.Told.{BeginsWith}
use Rattle.oz_om.specs.Purging.{NoneHadAny}
use Rattle.oz_om.proofs.purging.Manager+Ledger+O+O+L+R.purge_blocks.Given as goal

-- no stripe that was looked at had any rows that might go
abbrev pub invariant-loop-stripe : goal.invariant-loop-stripe
invariant-loop-stripe g l = record {
  ready : IsReady g.R.Ring.turn l.by l.seat;
  room : room_of l.seat ≡ room_of l.fn.seat;
  mine : mine_of l.seat ≡ mine_of l.fn.seat;
  goes_on : BeginsWith (seen_of l.seat) (seen_of l.fn.seat);
  none : NoneHadAny g.O.Opened.coherent g.O.Opened.opening g.L.Loaded.rows l.stripe (seen_of l.fn.seat) (seen_of l.seat);
}
