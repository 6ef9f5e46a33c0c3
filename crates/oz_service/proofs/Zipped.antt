-- What holds of two lists place by place.
use Rattle.std.proofs.Common.{◌≡◌, ℕ, zero, suc, List, [], ◌∷◌, slice_get, slice_set, Some, refl, subst}
use Rattle.std.specs.List.{AllZip}

module _ {A B : Type 0} (R : A → B → Type 0) where
  same_some : {x y : B} → Some x ≡ Some y → x ≡ y
  same_some e = cc

  -- each of the second list has one of the first in its place
  pub zip_get : (xs : List A) (ys : List B) (n : ℕ) (y : B) → AllZip R xs ys → slice_get ys n ≡ Some y → (x : A) × (slice_get xs n ≡ Some x) × R x y
  zip_get [] [] n y all at = absurd cc
  zip_get [] (z ∷ ys) n y all at = absurd all
  zip_get (x ∷ xs) [] n y all at = absurd all
  zip_get (x ∷ xs) (z ∷ ys) zero y all at = (x, refl, subst (R x) (same_some at) all.0)
  zip_get (x ∷ xs) (z ∷ ys) (suc n) y all at = zip_get xs ys n y all.1 at

  -- and it holds still, once one of the second is changed to one of which it holds too
  pub zip_set : (xs : List A) (ys : List B) (n : ℕ) (z : B) → AllZip R xs ys → ((x : A) (y : B) → slice_get ys n ≡ Some y → R x y → R x z)
      → AllZip R xs (slice_set ys n z)
  zip_set [] [] n z all goes = all
  zip_set [] (y ∷ ys) n z all goes = absurd all
  zip_set (x ∷ xs) [] n z all goes = absurd all
  zip_set (x ∷ xs) (y ∷ ys) zero z all goes = (goes x y refl all.0, all.1)
  zip_set (x ∷ xs) (y ∷ ys) (suc n) z all goes = (all.0, zip_set xs ys n z all.1 goes)

pub zip_self : {A : Type 0} (R : A → A → Type 0) → ((x : A) → R x x) → (xs : List A) → AllZip R xs xs
zip_self R itself [] = tt
zip_self R itself (x ∷ xs) = (itself x, zip_self R itself xs)
