use Rattle.oz_locks.proofs.Seated.{adds_one, whole_noted}
use Rattle.oz_locks.proofs.stripe.Stripe.note.Goals as goal

pub invariant_of-self : goal.invariant_of-self
invariant_of-self g c =
    let t = c.give.ensures in
    whole_noted _ _ _ _ _ _ _ _ _ _ _ _ _ _ _ _ _ _ _ _ c.self.view_is c.self.invariant t.seat t.mine t.seen c.requires.decides.1 c.pin_all.ensures.items

pub give-requires-clause-entry : goal.give-requires-clause-entry
give-requires-clause-entry g c = adds_one _ _ _ _ _ _ _ _ _ _ _ _ _ _ _ _ _ _ _ c.requires.tells_seats c.self.view_is c.self.invariant c.requires.decides.1
