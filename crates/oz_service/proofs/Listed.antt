-- What holds of each element of a list, and lists whose elements are changed one after the other.
use Rattle.std.proofs.Common.{◌≡◌, ◌≢◌, ℕ, zero, suc, ◌+◌, ◌≤◌, List, [], ◌∷◌, ◌++◌, length, map, take, drop, slice_get, slice_set, Some, refl, sym, ap, ◌∙◌, subst, arith}

module _ {A : Type 0} where
  same_some : {x y : A} → Some x ≡ Some y → x ≡ y
  same_some e = cc

  -- what holds of each but one holds of each once that one is changed
  pub each_set : (P : ℕ → A → Type 0) (xs : List A) (n : ℕ) (y : A)
      → ((place : ℕ) (a : A) → place ≢ n → slice_get xs place ≡ Some a → P place a) → P n y
      → (place : ℕ) (a : A) → slice_get (slice_set xs n y) place ≡ Some a → P place a
  each_set P [] n y others its place a at = absurd cc
  each_set P (x ∷ xs) zero y others its zero a at = subst (P 0) (same_some at) its
  each_set P (x ∷ xs) zero y others its (suc place) a at = others (suc place) a (λ e. absurd (omega (arith, e))) at
  each_set P (x ∷ xs) (suc n) y others its zero a at = others 0 a (λ e. absurd (omega (arith, e))) at
  each_set P (x ∷ xs) (suc n) y others its (suc place) a at =
      each_set (λ k. P (suc k)) xs n y (λ k b apart at. others (suc k) b (λ e. apart (omega (arith, e))) at) its place a at

  -- and of each of one more
  pub each_pushed : (P : ℕ → A → Type 0) (xs : List A) (y : A)
      → ((place : ℕ) (a : A) → slice_get xs place ≡ Some a → P place a) → P (length xs) y
      → (place : ℕ) (a : A) → slice_get (xs ++ y ∷ []) place ≡ Some a → P place a
  each_pushed P [] y others its zero a at = subst (P 0) (same_some at) its
  each_pushed P [] y others its (suc place) a at = absurd cc
  each_pushed P (x ∷ xs) y others its zero a at = others 0 a at
  each_pushed P (x ∷ xs) y others its (suc place) a at =
      each_pushed (λ k. P (suc k)) xs y (λ k b at. others (suc k) b at) its place a at

  module _ (f : A → A) where
    -- the first so many are changed
    abbrev pub front : ℕ → List A → List A
    front n xs = map f (take n xs) ++ drop n xs

    suc_is : (n : ℕ) → suc n ≡ n + 1
    suc_is n = omega arith

    at_seam : (xs : List A) (n : ℕ) → slice_get (front n xs) n ≡ slice_get xs n
    at_seam [] zero = refl
    at_seam [] (suc n) = refl
    at_seam (x ∷ xs) zero = refl
    at_seam (x ∷ xs) (suc n) = at_seam xs n

    one_more : (xs : List A) (n : ℕ) (x : A) → slice_get xs n ≡ Some x → slice_set (front n xs) n (f x) ≡ front (suc n) xs
    one_more [] n x at = absurd cc
    one_more (y ∷ xs) zero x at = ap (λ (z : A). f z ∷ xs) (sym (same_some at))
    one_more (y ∷ xs) (suc n) x at = ap (λ (l : List A). f y ∷ l) (one_more xs n x at)

    pub next_front : (xs now next : List A) (n : ℕ) (x : A) → now ≡ front n xs → slice_get now n ≡ Some x → next ≡ slice_set now n (f x) → next ≡ front (n + 1) xs
    next_front xs now next n x is at set =
        subst (λ k. next ≡ front k xs) (suc_is n)
        (set ∙ (ap (λ (l : List A). slice_set l n (f x)) is
        ∙ one_more xs n x (sym (at_seam xs n) ∙ (ap (λ (l : List A). slice_get l n) (sym is) ∙ at))))

    pub no_front : (xs : List A) → xs ≡ front 0 xs
    no_front xs = refl

    pub whole_front : (xs : List A) (n : ℕ) → length xs ≤ n → front n xs ≡ map f xs
    whole_front [] zero past = refl
    whole_front [] (suc n) past = refl
    whole_front (x ∷ xs) zero past = absurd (omega (arith, past))
    whole_front (x ∷ xs) (suc n) past = ap (λ (l : List A). f x ∷ l) (whole_front xs n (omega (arith, past)))

-- one function behind another
pub map_both : {A B C : Type 0} (f : A → B) (h : B → C) (xs : List A) → map (λ x. h (f x)) xs ≡ map h (map f xs)
map_both f h [] = refl
map_both f h (x ∷ xs) = ap (λ l. h (f x) ∷ l) (map_both f h xs)
