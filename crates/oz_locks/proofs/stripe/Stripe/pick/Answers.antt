use Rattle.std.proofs.Common.{rules, ◌≡◌}
use Rattle.oz_locks.proofs.stripe.Stripe.pick.Goals as goal

pub returns : goal.returns
returns g c = let same : c.as_slice.result.now ≡ c.self.inside.pool.items = search rules in rw (← c.self.view_is, ← same) c.first_allowed.ensures
