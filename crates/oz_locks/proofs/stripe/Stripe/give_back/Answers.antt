use Rattle.std.proofs.Common.{[], sym, ◌∙◌, append-nil}
use Rattle.oz_locks.proofs.Seated.{whole_seen}
use Rattle.oz_locks.proofs.stripe.Stripe.give_back.Goals as goal

pub invariant_of-self : goal.invariant_of-self
invariant_of-self g c =
    let t = c.give_back.ensures in
    whole_seen _ _ _ _ _ _ _ _ _ _ _ _ _ _ c.self.invariant t.seat t.mine ([], t.seen ∙ sym (append-nil _))
