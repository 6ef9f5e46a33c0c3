use Rattle.oz_turn.specs.Turn.{turn_id}
use Rattle.oz_running.proofs.running.run_lines.Given as goal

-- the run's turn
abbrev pub ghosts-run_in_turn : goal.ghosts-run_in_turn
ghosts-run_in_turn g a = record { turn = turn_id a.turn }
