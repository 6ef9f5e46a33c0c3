use Rattle.std.proofs.Common.{IfOk, subst}
use Rattle.oz_cache.specs.Cache.{newest}
use Rattle.oz_reclaim.specs.Work.{IsChainWork}
use Rattle.oz_locks.specs.Stripe.{StripeView}
use Rattle.oz_locks.proofs.Reclaiming.{keeps_looked}
use Rattle.oz_locks.proofs.Seated.{whole_reclaimed}
use Rattle.oz_locks.proofs.stripe.Stripe.next_work.Goals as goal

pub invariant_of-self : goal.invariant_of-self
invariant_of-self g c =
    let n = c.next_work.ensures in
    whole_reclaimed _ _ _ _ _ _ _ _ _ _ _ _ _ _ c.self.invariant (keeps_looked _ _ _ _ _ c.self.invariant.1.reclaims n.same n.flag)

pub returns-clause-work : goal.returns-clause-work
returns-clause-work g c =
    subst (λ (v : StripeView _). IfOk c.next_work.result (IsChainWork (newest v.cache))) c.self.view_is c.next_work.ensures.work
