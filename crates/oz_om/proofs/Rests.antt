-- A stripe comes to rest again.
use Rattle.std.proofs.Common.{◌≡◌, ◌≤◌, ℕ, List, None, sym, ap, ◌∙◌, subst, arith}
use Rattle.oz_cache.specs.Cache.{newest}
use Rattle.oz_core.specs.declared.event.Event.{Event}
use Rattle.oz_core.specs.declared.opening.Opening.{Opening}
use Rattle.oz_core.specs.Contents.{OpeningBytes}
use Rattle.oz_core.specs.Manager.{durable_index, stable_index}
use Rattle.oz_core.specs.Stories.{last_told}
use Rattle.oz_locks.specs.Flushes.{flushed_in}
use Rattle.oz_locks.specs.Stripe.{IsAtRest, StripeView}
use Rattle.oz_rows.specs.declared.key.RowKey.{RowKey}
use Rattle.oz_rows.specs.RowMaps.{Rows}
use Rattle.oz_om.specs.Keeps.{KeepsRows}
use Rattle.oz_om.specs.Opens.{Opens}

module _ {T : Type 0} (Coherent Agrees : Type 0) (opening : Opening) (bytes : OpeningBytes) (loaded : Rows) (last : ℕ)
    (Keeps : ℕ → List Event → List Event → Rows → Type 0) (opens : Opens Coherent opening bytes loaded last Agrees Keeps)
    (old : StripeView T) (story : List Event) where
  -- the value was given back
  pub record CameBack (s : StripeView T) : Type 0 where
    pub free : s.taken ≡ None
    pub flushed : s.flushed ≡ old.flushed
    pub known : flushed_in last s.seen ≡ flushed_in last story
    pub keeps : KeepsRows Coherent opening loaded s.number s.mine s.seen (newest s.cache)

  pub rests_again : (s t : StripeView T) (durable : ℕ) → CameBack s → t ≡ record s { cache = t.cache; flushed = t.flushed }
      → ((key : RowKey) → newest t.cache key ≡ newest s.cache key) → (s.flushed ≤ durable → t.flushed ≡ durable)
      → durable ≡ durable_index opening story → (Agrees → old.flushed ≤ durable_index opening story) → IsAtRest last Agrees Keeps t
  rests_again s t durable came same rows brought is lower = record {
    free = (λ i. (same i).taken) ∙ came.free;
    whole = λ agreed.
        brought (omega (arith, came.flushed, is, lower agreed))
        ∙ is ∙ ap (λ (n : ℕ). last_told stable_index n story) (sym opens.last)
        ∙ sym came.known ∙ (λ i. flushed_in last (sym same i).seen);
    keeps = (opens.keeps t.number t.mine t.seen (newest t.cache)).1
        (subst (λ (r : Rows). KeepsRows Coherent opening loaded t.number t.mine t.seen r) (λ i key. sym (rows key) i)
        (subst (λ (v : StripeView T). KeepsRows Coherent opening loaded v.number v.mine v.seen (newest s.cache)) (sym same) came.keeps));
  }
