use Rattle.oz_turn.specs.Turn.{turn_id}
use Rattle.beside_tests.proofs.om_refusals.who_asks_again_or_knows_of_more_is_refused.Given as goal

-- the turn that was just made
abbrev pub ghosts-refuse : goal.ghosts-refuse
ghosts-refuse g a = record { turn = turn_id a.turn.now }
