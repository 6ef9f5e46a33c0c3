use Rattle.oz_locks.proofs.Seated.{whole_unpinned}
use Rattle.oz_locks.proofs.stripe.Stripe.unpin_told.Goals as goal

pub invariant_of-self : goal.invariant_of-self
invariant_of-self g c =
    whole_unpinned _ _ _ _ _ _ _ _ _ _ _ _ _ _ _ _ _ c.self.view_is c.self.invariant c.requires c.keep_untold.ensures.items
