-- What stands at the places of lists that one more is put behind, or the last is taken from.
use Rattle.std.proofs.Common.{◌≡◌, ℕ, zero, suc, ◌+◌, List, [], ◌∷◌, ◌++◌, length, map, slice_get, Some, refl, sym, ap, ◌∙◌, subst, arith, length-append}
use Rattle.oz_om.specs.Seated.{ArePlaced}

module _ {A : Type 0} where
  pub none_placed : (IsOf : ℕ → A → Type 0) → ArePlaced IsOf []
  none_placed IsOf n x at = absurd cc

  -- one more at its place
  pub more_placed : (IsOf : ℕ → A → Type 0) (items : List A) (item : A) → ArePlaced IsOf items → IsOf (length items) item
      → ArePlaced IsOf (items ++ item ∷ [])
  more_placed IsOf [] item are is zero x at = subst (IsOf 0) (inside at) is
    where
      inside : Some item ≡ Some x → item ≡ x
      inside e = cc
  more_placed IsOf [] item are is (suc n) x at = absurd cc
  more_placed IsOf (first ∷ items) item are is zero x at = are zero x at
  more_placed IsOf (first ∷ items) item are is (suc n) x at =
      let e : length (first ∷ items) ≡ suc (length items) = omega arith in
      more_placed (λ k. IsOf (suc k)) items item (λ k. are (suc k)) (subst (λ k. IsOf k item) e is) n x at

  -- the last of them, and those before it
  front_at : (items rest : List A) (n : ℕ) (x : A) → slice_get items n ≡ Some x → slice_get (items ++ rest) n ≡ Some x
  front_at [] rest n x at = absurd cc
  front_at (first ∷ items) rest zero x at = at
  front_at (first ∷ items) rest (suc n) x at = front_at items rest n x at

  last_at : (items : List A) (item : A) → slice_get (items ++ item ∷ []) (length items) ≡ Some item
  last_at [] item = refl
  last_at (first ∷ items) item = last_at items item

  front_placed : (IsOf : ℕ → A → Type 0) (items rest : List A) → ArePlaced IsOf (items ++ rest) → ArePlaced IsOf items
  front_placed IsOf items rest are n x at = are n x (front_at items rest n x at)

  pub front_of : (IsOf : ℕ → A → Type 0) (all items rest : List A) → all ≡ items ++ rest → ArePlaced IsOf all → ArePlaced IsOf items
  front_of IsOf all items rest e are = front_placed IsOf items rest (subst (ArePlaced IsOf) e are)

  pub last_of : (IsOf : ℕ → A → Type 0) (all items : List A) (item : A) → all ≡ items ++ item ∷ [] → ArePlaced IsOf all → IsOf (length items) item
  last_of IsOf all items item e are = subst (ArePlaced IsOf) e are (length items) item (last_at items item)

  pub with_last : (IsOf : ℕ → A → Type 0) (all items : List A) (item : A) → all ≡ items ++ item ∷ [] → ArePlaced IsOf items → IsOf (length items) item
      → ArePlaced IsOf all
  with_last IsOf all items item e are is = subst (ArePlaced IsOf) (sym e) (more_placed IsOf items item are is)

  pub one_more : (all items : List A) (item : A) → all ≡ items ++ item ∷ [] → length all ≡ length items + 1
  one_more all items item e =
      let same : length all ≡ length (items ++ item ∷ []) = ap (λ (l : List A). length l) e in
      let both = length-append items (item ∷ []) in
      omega (arith, same, both)

  -- the part of each, of a list and of the one behind it
  pub map_push : {B : Type 0} (part : A → B) (all items : List A) (item : A) → all ≡ items ++ item ∷ [] → map part all ≡ map part items ++ part item ∷ []
  map_push part all items item e = ap (map part) e ∙ parts items
    where
      parts : (items : List A) → map part (items ++ item ∷ []) ≡ map part items ++ part item ∷ []
      parts [] = refl
      parts (first ∷ items) = ap (λ l. part first ∷ l) (parts items)
