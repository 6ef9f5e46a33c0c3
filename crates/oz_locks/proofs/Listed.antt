-- Stripes in a list.
use Rattle.std.proofs.Common.{◌≡◌, ℕ, zero, suc, ◌+◌, List, [], ◌∷◌, ◌++◌, length, slice_get, Some, refl, subst, arith}
use Rattle.oz_core.specs.declared.event.Event.{Event}
use Rattle.oz_rows.specs.RowMaps.{Rows}
use Rattle.oz_locks.specs.Stripe.{StripeView, AreInOrder, IsAtRest}

module _ {T : Type 0} (opened : ℕ) (Coherent : Type 0) (keeps : ℕ → List Event → List Event → Rows → Type 0) where
  pub none_in_order : AreInOrder {T = T} opened Coherent keeps []
  none_in_order n s at = absurd cc

  -- one more at its place
  more_from : (start : ℕ) (stripes : List (StripeView T)) (stripe : StripeView T)
      → ((n : ℕ) (s : StripeView T) → slice_get stripes n ≡ Some s → (s.number ≡ start + n) × IsAtRest opened Coherent keeps s)
      → stripe.number ≡ start + length stripes → IsAtRest opened Coherent keeps stripe
      → (n : ℕ) (s : StripeView T) → slice_get (stripes ++ stripe ∷ []) n ≡ Some s → (s.number ≡ start + n) × IsAtRest opened Coherent keeps s
  more_from start [] stripe are number rests zero s at = subst (λ (x : StripeView T). (x.number ≡ start + 0) × IsAtRest opened Coherent keeps x) (inside at) (number, rests)
    where
      inside : Some stripe ≡ Some s → stripe ≡ s
      inside e = cc
  more_from start [] stripe are number rests (suc n) s at = absurd cc
  more_from start (x ∷ stripes) stripe are number rests zero s at = are 0 s at
  more_from start (x ∷ stripes) stripe are number rests (suc n) s at =
      let later = more_from (start + 1) stripes stripe (λ n s at. let r = are (suc n) s at in let e = r.0 in (omega arith, r.1)) (omega (arith, number)) rests n s at in
      let e = later.0 in
      (omega arith, later.1)

  pub more_in_order : (stripes : List (StripeView T)) (stripe : StripeView T) → AreInOrder opened Coherent keeps stripes → stripe.number ≡ length stripes → IsAtRest opened Coherent keeps stripe
      → AreInOrder opened Coherent keeps (stripes ++ stripe ∷ [])
  more_in_order stripes stripe are number rests n s at =
      let r = more_from 0 stripes stripe (λ n s at. let r = are n s at in let e = r.0 in (omega arith, r.1)) (omega (arith, number)) rests n s at in
      let e = r.0 in
      (omega arith, r.1)

  -- the last of them
  front_from : (stripes rest : List (StripeView T)) (n : ℕ) (s : StripeView T) → slice_get stripes n ≡ Some s → slice_get (stripes ++ rest) n ≡ Some s
  front_from [] rest n s at = absurd cc
  front_from (x ∷ stripes) rest zero s at = at
  front_from (x ∷ stripes) rest (suc n) s at = front_from stripes rest n s at

  pub front_in_order : (stripes rest : List (StripeView T)) → AreInOrder opened Coherent keeps (stripes ++ rest) → AreInOrder opened Coherent keeps stripes
  front_in_order stripes rest are n s at = are n s (front_from stripes rest n s at)

  last_at : (stripes : List (StripeView T)) (stripe : StripeView T) → slice_get (stripes ++ stripe ∷ []) (length stripes) ≡ Some stripe
  last_at [] stripe = refl
  last_at (x ∷ stripes) stripe = last_at stripes stripe

  pub last_in_order : (stripes : List (StripeView T)) (stripe : StripeView T) → AreInOrder opened Coherent keeps (stripes ++ stripe ∷ []) → (stripe.number ≡ length stripes) × IsAtRest opened Coherent keeps stripe
  last_in_order stripes stripe are = are (length stripes) stripe (last_at stripes stripe)
