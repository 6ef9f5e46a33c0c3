use Rattle.oz_locks.proofs.Seated.{whole_down}
use Rattle.oz_locks.proofs.stripe.Stripe.flushed.Goals as goal

pub invariant_of-self : goal.invariant_of-self
invariant_of-self g c =
    let t = c.flushed.ensures in
    whole_down _ _ _ _ _ _ _ _ _ _ _ _ _ _ _ _ c.self.view_is c.self.invariant c.requires.index c.requires.rises t.rows t.last_index t.entered t.newest c.what_is_noted_may_change.ensures
