use Rattle.oz_turn.specs.Turn.{turn_id}
use Rattle.oz_turn.specs.Seat.{IsReady}
use Rattle.beside_tests.proofs.turns.decide_many.Given as goal

abbrev pub invariant-loop-index : goal.invariant-loop-index
invariant-loop-index g l = IsReady (turn_id l.turn) l.number l.seat
