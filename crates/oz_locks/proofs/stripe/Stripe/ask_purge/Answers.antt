use Rattle.oz_locks.proofs.Seated.{asks_one, whole_asked}
use Rattle.oz_locks.proofs.stripe.Stripe.ask_purge.Goals as goal

pub invariant_of-self : goal.invariant_of-self
invariant_of-self g c =
    let t = c.give.ensures in
    let a = c.requires.asks in
    whole_asked _ _ _ _ _ _ _ _ _ _ _ _ _ _ _ _ _ c.self.view_is c.self.invariant t.seat t.mine t.seen a.1 a.2

pub give-requires-clause-entry : goal.give-requires-clause-entry
give-requires-clause-entry g c = let a = c.requires.asks in asks_one _ _ _ _ _ _ _ _ _ _ _ _ _ _ _ _ c.requires.tells_seats c.self.view_is c.self.invariant a.1
