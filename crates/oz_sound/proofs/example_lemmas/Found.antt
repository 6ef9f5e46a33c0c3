-- What holds of each entry of a map holds of what is found there.
use Rattle.std.proofs.Common.{◌≡◌, Bool, true, false, List, [], ◌∷◌, Option, None, Some, IsSome, is_some, cond, refl, sym, ◌∙◌, ap, subst}
use mathlib.Core.Bool.{false≢true}
use Rattle.std.specs.List.{AllByRecursion}
use Rattle.std.specs.Cmp.{IsTotalOrder}
use Rattle.std.specs.FinMap.{get, from_entries, find, get-from_entries, IsAntisymmetric}
use Rattle.std.specs.Option.{option_and_then}
use Rattle.std.specs.Ordering.{eq_by_cmp}
use Rattle.std.specs.declared.cmp.Ordering.{Ordering}
use Rattle.oz_sound.proofs.example_lemmas.Keys.{equal_from_test}

module _ {K X : Type 0} {R : K → K → Ordering} (total : IsTotalOrder R) (one : IsAntisymmetric R) (Holds : K → X → Type 0) where
  in_list : (es : List (K × X)) → AllByRecursion (λ (e : K × X). Holds e.0 e.1) es → (q : K) (x : X) → find R q es ≡ Some x → Holds q x
  in_list [] all q x e = absurd (cc)
  in_list (y ∷ es) all q x e = by (eq_by_cmp R q y.0) refl (in_list es all.1 q x)
    where
      by : (t : Bool) → eq_by_cmp R q y.0 ≡ t → (find R q es ≡ Some x → Holds q x) → Holds q x
      by true is later =
          let same : q ≡ y.0 = one q y.0 (equal_from_test _ is) in
          let found : Some y.1 ≡ Some x = sym (ap (λ (t : Bool). cond t (Some y.1) (find R q es)) is) ∙ e in
          let value : y.1 ≡ x = cc in
          subst (Holds q) value (subst (λ (k : K). Holds k y.1) (sym same) all.0)
      by false is later = later (sym (ap (λ (t : Bool). cond t (Some y.1) (find R q es)) is) ∙ e)

  pub each_found : (es : List (K × X)) → AllByRecursion (λ (e : K × X). Holds e.0 e.1) es → (q : K) (x : X) → get (from_entries {R = R} es) q ≡ Some x → Holds q x
  each_found es all q x e = in_list es all q x (sym (get-from_entries total es q) ∙ e)

pub not_none : {A P : Type 0} (a : A) → None ≡ Some a → P
not_none a e = absurd (false≢true (ap is_some e))

-- two that have the same values are the same
pub same_option : {A : Type 0} (a b : Option A) → ((x : A) → a ≡ Some x → b ≡ Some x) → ((x : A) → b ≡ Some x → a ≡ Some x) → a ≡ b
same_option None None there back = refl
same_option None (Some y) there back = back y refl
same_option (Some x) b there back = sym (there x refl)

pub same_test : {A B : Type 0} (a : Option A) (b : Option B) → ((x : A) → a ≡ Some x → IsSome b) → ((y : B) → b ≡ Some y → IsSome a) → is_some a ≡ is_some b
same_test None None there back = refl
same_test None (Some y) there back = back y refl
same_test (Some x) b there back = sym (there x refl)

-- what comes of one value, comes of some value
pub came_of : {A B : Type 0} (f : A → Option B) (o : Option A) (y : B) → option_and_then f o ≡ Some y → (x : A) × (o ≡ Some x) × (f x ≡ Some y)
came_of f None y e = not_none y e
came_of f (Some x) y e = (x, refl, e)
