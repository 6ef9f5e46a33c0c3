use Rattle.oz_turn.specs.Turn.{turn_id}
use Rattle.beside_tests.proofs.stripes.a_stripe_is_locked_while_another_is_held.Given as goal

-- the turn that was just made
abbrev pub ghosts-hold_beside : goal.ghosts-hold_beside
ghosts-hold_beside g a = record { turn = turn_id a._turn.now }
