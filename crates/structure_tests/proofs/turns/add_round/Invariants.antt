use Rattle.std.proofs.Common.{◌≡◌, vec_len}
use Rattle.oz_turn.specs.Turn.{turn_id}
use Rattle.oz_turn.specs.Seat.{AreReady}
use Rattle.structure_tests.proofs.turns.add_round.Given as goal

-- the seats are ready again after each note
abbrev pub invariant-loop-n : goal.invariant-loop-n
invariant-loop-n g l = AreReady (turn_id l.turn) l.seats.items × (vec_len l.seats ≡ 64)
