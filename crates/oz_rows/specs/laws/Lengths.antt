-- Lists without repetitions are no longer than those that have all that they have.
use Rattle.std.proofs.Common.{◌≡◌, ◌≢◌, ◌≤◌, suc, Bool, true, false, ◌||◌, List, [], ◌∷◌, ◌++◌, length, refl, sym, ◌∙◌}
use Rattle.std.proofs.Common.{ap, subst, arith}
use mathlib.Core.Bool.{false≢true}
use Rattle.std.specs.List.{AllByRecursion, list_any}
use Rattle.oz_rows.specs.Counts.{AllDiffer}

module _ {A : Type 0} (same : A → A → Bool) (one : (x y : A) → same x y ≡ true → x ≡ y) where
  -- a list in which an item stands
  record Split (x : A) (l : List A) : Type 0 where
    before : List A
    behind : List A
    parts : l ≡ before ++ x ∷ behind

  split : (x : A) (l : List A) → list_any (same x) l ≡ true → Split x l
  split x [] e = absurd (false≢true e)
  split x (y ∷ l) e = by_test (same x y) refl (split x l)
    where
      by_test : (t : Bool) → same x y ≡ t → (list_any (same x) l ≡ true → Split x l) → Split x (y ∷ l)
      by_test true is later = record { before = []; behind = l; parts = ap (λ z. z ∷ l) (sym (one x y is)) }
      by_test false is later =
          let found = later (subst (λ (t : Bool). t || list_any (same x) l ≡ true) is e) in
          record { before = y ∷ found.before; behind = found.behind; parts = ap (λ rest. y ∷ rest) found.parts }

  without : (x y : A) → y ≢ x → (a b : List A) → list_any (same x) (a ++ y ∷ b) ≡ true → list_any (same x) (a ++ b) ≡ true
  without x y apart [] b e = by_test (same x y) refl
    where
      by_test : (t : Bool) → same x y ≡ t → list_any (same x) b ≡ true
      by_test true is = absurd (apart (sym (one x y is)))
      by_test false is = subst (λ (t : Bool). t || list_any (same x) b ≡ true) is e
  without x y apart (z ∷ a) b e = by_test (same x z) refl (without x y apart a b)
    where
      by_test : (t : Bool) → same x z ≡ t → (list_any (same x) (a ++ y ∷ b) ≡ true → list_any (same x) (a ++ b) ≡ true)
          → same x z || list_any (same x) (a ++ b) ≡ true
      by_test true is later = ap (λ (t : Bool). t || list_any (same x) (a ++ b)) is
      by_test false is later = ap (λ (t : Bool). t || list_any (same x) (a ++ b)) is
          ∙ later (subst (λ (t : Bool). t || list_any (same x) (a ++ y ∷ b) ≡ true) is e)

  all_without : (y : A) (a b items : List A) → AllByRecursion (λ other. y ≢ other) items → AllByRecursion (λ x. list_any (same x) (a ++ y ∷ b) ≡ true) items
      → AllByRecursion (λ x. list_any (same x) (a ++ b) ≡ true) items
  all_without y a b [] apart all = tt
  all_without y a b (x ∷ items) apart all = (without x y apart.0 a b all.0, all_without y a b items apart.1 all.1)

  size_with : (a b : List A) (y : A) → length (a ++ y ∷ b) ≡ suc (length (a ++ b))
  size_with [] b y = refl
  size_with (x ∷ a) b y = ap suc (size_with a b y)

  pub no_longer : (items all : List A) → AllDiffer items → AllByRecursion (λ x. list_any (same x) all ≡ true) items → length items ≤ length all
  no_longer [] all differ among = omega arith
  no_longer (x ∷ items) all differ among =
      let found = split x all among.0 in
      let others = subst (λ l. AllByRecursion (λ y. list_any (same y) l ≡ true) items) found.parts among.1 in
      let rest = no_longer items (found.before ++ found.behind) differ.1 (all_without x found.before found.behind items differ.0 others) in
      omega (arith, rest, ap length found.parts, size_with found.before found.behind x)
