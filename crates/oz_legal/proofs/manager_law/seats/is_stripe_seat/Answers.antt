use Rattle.std.proofs.Common.{◌-◌, ◌<◌, ◌≤◌, arith}
use Rattle.std.proofs.lemmas.Bool.{ltb-true, lt-ltb}
use Rattle.oz_legal.proofs.manager_law.seats.is_stripe_seat.Goals as goal

pub returns-then-seat-ge-FIRST_STRIPE_SEAT : goal.returns-then-seat-ge-FIRST_STRIPE_SEAT
returns-then-seat-ge-FIRST_STRIPE_SEAT c =
    let from : 20 ≤ c.args.seat = c.if-seat-ge-FIRST_STRIPE_SEAT.true in (
      λ h.
          let below : c.args.seat - 20 < c.from.result = ltb-true (c.args.seat - 20) c.from.result h in
          record { stripe = c.args.seat - 20; there = omega (arith, below, c.from.ensures); its = omega (arith, from) },
      λ is. lt-ltb (c.args.seat - 20) c.from.result (omega (arith, is.its, is.there, c.from.ensures)),
    )
