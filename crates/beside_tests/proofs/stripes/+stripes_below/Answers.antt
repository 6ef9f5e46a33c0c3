use Rattle.std.proofs.Common.{subst, sym, ◌∙◌}
use Rattle.beside_tests.specs.Stripes.{AreNoMore}
use Rattle.oz_locks.specs.Stripe.{AreInOrder}
use Rattle.beside_tests.proofs.stripes.+stripes_below.Goals as goal

pub returns-clause-in_order : goal.returns-clause-in_order
returns-clause-in_order g t c n s at =
    let new = c.in-Some.ensures.stripe in
    let others = c.in_ok-stripes.ensures in
    subst (AreInOrder 0 (Unit {0}) AreNoMore) (sym c.in_ok-push.ensures.items)
    (c.stripes_stay_in_order.ensures.pushed _ _ others.in_order (new.numbered ∙ sym others.count) new.rests) n s at
