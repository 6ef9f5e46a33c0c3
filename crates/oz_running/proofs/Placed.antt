-- What stands at the places of lists that are cut and put together.
use Rattle.std.proofs.Common.{◌≡◌, ◌<◌, ℕ, zero, suc, ◌+◌, List, [], ◌∷◌, ◌++◌, length, take, drop, slice_get, Some, All, refl, sym, ap, ◌∙◌, subst, arith, length-append}
use Rattle.std.proofs.Math.Seq.{take-append_seam}
use Rattle.std.proofs.lemmas.Option.{get_or_from_slice_get, slice_get_within}
use Rattle.oz_headline.specs.Seated.{ArePlaced}

module _ {A : Type 0} where
  -- what is at a place
  pub there : (items : List A) (n : ℕ) → n < length items → (x : A) × (slice_get items n ≡ Some x)
  there [] n less = absurd (omega (arith, less))
  there (first ∷ items) zero less = (first, refl)
  there (first ∷ items) (suc n) less = there items n (omega (arith, less))

  pub all_at : (P : A → Type 0) (items : List A) (n : ℕ) (x : A) → All P items → slice_get items n ≡ Some x → P x
  all_at P items n x all at = subst P (get_or_from_slice_get items n x x at) (all n x (slice_get_within items n x at))

  front_at : (items rest : List A) (n : ℕ) (x : A) → slice_get items n ≡ Some x → slice_get (items ++ rest) n ≡ Some x
  front_at [] rest n x at = absurd cc
  front_at (first ∷ items) rest zero x at = at
  front_at (first ∷ items) rest (suc n) x at = front_at items rest n x at

  pub front_placed : (IsOf : ℕ → A → Type 0) (items rest : List A) → ArePlaced IsOf (items ++ rest) → ArePlaced IsOf items
  front_placed IsOf items rest are n x at = are n x (front_at items rest n x at)

  pub back_placed : (IsOf : ℕ → A → Type 0) (items rest : List A) → ArePlaced IsOf (items ++ rest) → ArePlaced (λ n. IsOf (length items + n)) rest
  back_placed IsOf [] rest are n x at = let e : n ≡ 0 + n = omega arith in subst (λ (k : ℕ). IsOf k x) e (are n x at)
  back_placed IsOf (first ∷ items) rest are n x at =
      let e : suc (length items + n) ≡ length (first ∷ items) + n = omega arith in
      subst (λ (k : ℕ). IsOf k x) e (back_placed (λ k. IsOf (suc k)) items rest (λ k. are (suc k)) n x at)

  pub joined_placed : (IsOf : ℕ → A → Type 0) (items rest : List A) → ArePlaced IsOf items → ArePlaced (λ n. IsOf (length items + n)) rest → ArePlaced IsOf (items ++ rest)
  joined_placed IsOf [] rest are more n x at = let e : 0 + n ≡ n = omega arith in subst (λ (k : ℕ). IsOf k x) e (more n x at)
  joined_placed IsOf (first ∷ items) rest are more zero x at = are zero x at
  joined_placed IsOf (first ∷ items) rest are more (suc n) x at =
      joined_placed (λ k. IsOf (suc k)) items rest (λ k. are (suc k))
      (λ k y here. let e : length (first ∷ items) + k ≡ suc (length items + k) = omega arith in subst (λ (j : ℕ). IsOf j y) e (more k y here)) n x at

  -- one alone, at a place
  pub one_placed : (IsOf : ℕ → A → Type 0) (item : A) → IsOf 0 item → ArePlaced IsOf (item ∷ [])
  one_placed IsOf item is zero x at = subst (IsOf 0) (inside at) is
    where
      inside : Some item ≡ Some x → item ≡ x
      inside e = cc
  one_placed IsOf item is (suc n) x at = absurd cc

  -- the last of them, and those before it
  pub front_of : (IsOf : ℕ → A → Type 0) (all items rest : List A) → all ≡ items ++ rest → ArePlaced IsOf all → ArePlaced IsOf items
  front_of IsOf all items rest e are = front_placed IsOf items rest (subst (ArePlaced IsOf) e are)

  pub last_of : (IsOf : ℕ → A → Type 0) (all items : List A) (item : A) → all ≡ items ++ item ∷ [] → ArePlaced IsOf all → IsOf (length items) item
  last_of IsOf all items item e are =
      let e0 : length items + 0 ≡ length items = omega arith in
      subst (λ (k : ℕ). IsOf k item) e0 (back_placed IsOf items (item ∷ []) (subst (ArePlaced IsOf) e are) 0 item refl)

  -- one more behind them
  pub with_last : (IsOf : ℕ → A → Type 0) (all items : List A) (item : A) → all ≡ items ++ item ∷ [] → ArePlaced IsOf items → IsOf (length items) item
      → ArePlaced IsOf all
  with_last IsOf all items item e are is =
      let e0 : length items ≡ length items + 0 = omega arith in
      subst (ArePlaced IsOf) (sym e) (joined_placed IsOf items (item ∷ []) are (one_placed (λ n. IsOf (length items + n)) item (subst (λ (k : ℕ). IsOf k item) e0 is)))

  pub one_more : (all items : List A) (item : A) → all ≡ items ++ item ∷ [] → length all ≡ length items + 1
  one_more all items item e =
      let same : length all ≡ length (items ++ item ∷ []) = ap (λ (l : List A). length l) e in
      let both = length-append items (item ∷ []) in
      omega (arith, same, both)

  -- a list that was lent as a slice and is as it was
  pub lent : (items lent : List A) (count : ℕ) → lent ≡ items → count ≡ length items → take count (lent ++ drop (length lent) items) ≡ items
  lent items l count same all =
      ap (λ (n : ℕ). take n (l ++ drop (length l) items)) all
      ∙ (ap (λ (m : List A). take (length items) (m ++ drop (length m) items)) same ∙ take-append_seam items (drop (length items) items))
