use Rattle.std.proofs.Common.{◌∙◌}
use Rattle.oz_locks.proofs.Seated.{whole_seen}
use Rattle.oz_locks.proofs.stripe.Stripe.take.Goals as goal

pub invariant_of-self : goal.invariant_of-self
invariant_of-self g c =
    let t = c.take.ensures in
    whole_seen _ _ _ _ _ _ _ _ _ _ _ _ _ _ c.self.invariant t.seat t.mine (t.begins.0, t.seen ∙ t.begins.1)
