use Rattle.std.proofs.Common.{[], ◌∷◌, subst}
use Rattle.oz_turn.specs.Seat.{AreNewSeats}
use Rattle.beside_tests.proofs.stripes.last_stripe.Goals as goal

pub returns-clause-new : goal.returns-clause-new
returns-clause-new g c n s at =
    c.new_seats_are_ready.ensures.front _ _ (c.in_ok-seat.seat ∷ []) (subst (AreNewSeats g.R.Ring.turn) c.in_ok-seat.ensures.items c.requires.new) n s at
