use Rattle.std.proofs.Common.{◌≡◌, ℕ, List, [], ◌∷◌, length, Some, slice_get, sym, ap, subst, arith, length-append}
use Rattle.oz_cache.specs.Cache.{CacheView}
use Rattle.oz_loaded.specs.Parts.{IsPart}
use Rattle.oz_loaded.proofs.Puts.{pushed}
use Rattle.oz_loaded.proofs.parting.parts_of.Goals as goal

pub loop-stripe-preserved : goal.loop-stripe-preserved
loop-stripe-preserved c =
    let all = c.args.rows.now in
    let index = c.args.last_index in
    let parts = c.loop-stripe.parts.items in
    let part = c.in_ok-part_for.field-0 in
    let items = c.in_ok-push.ensures.items in (
      omega (arith, ap length items, length-append parts (part ∷ []), c.loop-stripe.invariant.0),
      subst (λ (l : List CacheView). (stripe : ℕ) (p : CacheView) → slice_get l stripe ≡ Some p → IsPart all index stripe p) (sym items)
          (pushed (IsPart all index) parts part c.loop-stripe.invariant.1
          (subst (λ (n : ℕ). IsPart all index n part) (sym c.loop-stripe.invariant.0) c.in_ok-part_for.ensures)),
    )
