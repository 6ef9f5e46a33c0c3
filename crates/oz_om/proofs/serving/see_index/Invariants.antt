use Rattle.oz_turn.specs.Turn.{turn_id}
use Rattle.oz_core.specs.Seats.{service_seat}
use Rattle.std.proofs.Common.{◌≡◌}
use Rattle.oz_turn.specs.Seat.{IsReady, mine_of, room_of, seen_of}
use Rattle.oz_turn.specs.Told.{BeginsWith}
use Rattle.oz_om.proofs.serving.see_index.Given as goal

-- the seat is as it was, but that it has seen more
abbrev pub invariant-loop : goal.invariant-loop
invariant-loop g l = record {
  can_next : (goal.iterator-loop g).can_next l.iterator';
  finite : (goal.iterator-loop g).is_finite l.iterator';
  ready : IsReady (turn_id l.turn) service_seat l.seat;
  room : room_of l.seat ≡ room_of l.initial.seat;
  goes_on : BeginsWith (seen_of l.seat) (seen_of l.initial.seat);
  mine : mine_of l.seat ≡ mine_of l.initial.seat;
}
