use Rattle.std.proofs.Common.{refl, sym, ◌∙◌}
use Rattle.oz_locks.proofs.Reclaiming.{or_left}
use Rattle.oz_locks.proofs.Seated.{whole_prepared}
use Rattle.oz_locks.proofs.stripe.Stripe.prepare.Goals as goal

pub invariant_of-self : goal.invariant_of-self
invariant_of-self g c =
    whole_prepared _ _ _ _ _ _ _ _ _ _ _ _ _ _ _ _ c.self.invariant refl refl refl c.in_err-room.ensures.same (λ e. or_left _ _ (sym c.room.ensures.flag ∙ e))

pub invariant_of-self-2 : goal.invariant_of-self-2
invariant_of-self-2 g c =
    let t = c.prepare.ensures in
    whole_prepared _ _ _ _ _ _ _ _ _ _ _ _ _ _ _ _ c.self.invariant t.rows t.last_index t.entered c.in_ok-room.ensures.ready (λ e. or_left _ _ (sym c.room.ensures.flag ∙ e))
