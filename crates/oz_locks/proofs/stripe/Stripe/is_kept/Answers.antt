use Rattle.std.proofs.Common.{subst}
use Rattle.oz_cache.specs.Cache.{newest}
use Rattle.oz_sound.specs.stripes.Stripes.{only}
use Rattle.oz_locks.specs.Rows.{AreReplayed}
use Rattle.oz_locks.specs.Stripe.{StripeView}
use Rattle.oz_locks.specs.Writes.{writes_of}
use Rattle.oz_locks.proofs.Replays.{replayed}
use Rattle.oz_locks.proofs.stripe.Stripe.is_kept.Goals as goal

pub returns-clause-rows : goal.returns-clause-rows
returns-clause-rows g c = subst (λ (v : StripeView _). AreReplayed (only v.number g.L.Loaded.rows) (writes_of v.mine) (newest v.cache)) c.self.view_is (replayed _ _ _ _ c.self.invariant.1.rows)
