use Rattle.std.proofs.Common.{rules}
use Rattle.oz_cache.specs.Cache.{newest}
use Rattle.oz_locks.proofs.Purging.{asked_none}
use Rattle.oz_locks.proofs.Reclaiming.{keeps_new}
use Rattle.oz_locks.proofs.stripe.Stripe.make.Goals as goal

pub invariant_of-result : goal.invariant_of-result
invariant_of-result g c =
    let n = c.new-3.ensures in (
      search rules,
      record {
        there = search rules;
        rows = search rules;
        on_disk = search rules;
        looked_at = search rules;
        pool_is = search rules;
        used = search rules;
        pinned = search rules;
        named = search rules;
        asked = λ coherent. asked_none (newest c.args.cached) _ c.requires.seat.mine;
        reclaims = keeps_new _ _ _ _ c.requires.entered n.noted n.swept n.marked;
      },
    )
