use Rattle.std.proofs.Common.{◌<◌, refl, subst, sym}
use Rattle.oz_cache.specs.Cache.{last_epoch}
use Rattle.oz_locks.specs.Stripe.{StripeView}
use Rattle.oz_locks.proofs.Seated.{adds_one, whole_entered}
use Rattle.oz_locks.proofs.stripe.Stripe.enter.Goals as goal

pub invariant_of-self : goal.invariant_of-self
invariant_of-self g c =
    let t = c.give.ensures in
    let d = c.requires.decides in
    let r = c.enter.ensures in
    let w = c.enter-2.ensures in
    whole_entered _ _ _ _ _ _ _ _ _ _ _ _ _ _ _ _ _ _ _ _ _ _ _ _ _ _ c.self.view_is c.self.invariant t.seat t.mine t.seen d.1 d.2 d.3 c.requires.above c.requires.unflushed
    c.requires.pooled c.requires.asked c.requires.ready c.requires.tidy r.entered r.durable r.newest w.noted w.swept refl c.withdraw.ensures c.pin_all.ensures.items

pub give-requires-clause-entry : goal.give-requires-clause-entry
give-requires-clause-entry g c = let d = c.requires.decides in adds_one _ _ _ _ _ _ _ _ _ _ _ _ _ _ _ _ _ _ _ c.requires.tells_seats c.self.view_is c.self.invariant d.1

pub enter-requires-clause-above : goal.enter-requires-clause-above
enter-requires-clause-above g c = subst (λ (v : StripeView _). last_epoch v.cache < c.args.index) (sym c.self.view_is) c.requires.above
