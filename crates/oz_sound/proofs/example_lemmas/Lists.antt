-- Tests of all items or of one, and different items of a list.
use Rattle.std.proofs.Common.{◌≡◌, ◌≢◌, ◌⊎◌, ◌≤◌, ◌&&◌, ◌||◌, suc, Bool, true, false, List, [], ◌∷◌, length, refl, sym, ◌∙◌, ap, inl, inr, arith}
use Rattle.std.specs.Prelude.{not}
use mathlib.Core.Bool.{false≢true}
use Rattle.std.specs.List.{AllByRecursion, list_all, list_any}
use Rattle.oz_rows.specs.Counts.{AllDiffer}

pub split_and : (a b : Bool) → (a && b) ≡ true → (a ≡ true) × (b ≡ true)
split_and true b e = (refl, e)
split_and false b e = absurd (false≢true e)

pub split_or : (a b : Bool) → (a || b) ≡ true → (a ≡ true) ⊎ (b ≡ true)
split_or true b e = inl refl
split_or false b e = inr e

-- the right side of a choice whose left side is the failure of a test that passes
pub if_so : (a b : Bool) → (not a || b) ≡ true → a ≡ true → b ≡ true
if_so true b e so = e
if_so false b e so = absurd (false≢true so)

pub not_so : (a : Bool) → not a ≡ true → a ≡ false
not_so false e = refl
not_so true e = absurd (false≢true e)

module _ {A : Type 0} where
  abbrev pub IsAmong : A → List A → Type 0
  IsAmong item [] = ⊥
  IsAmong item (x ∷ xs) = (item ≡ x) ⊎ IsAmong item xs

  pub each_item : (test : A → Bool) (items : List A) → list_all test items ≡ true → AllByRecursion (λ item. test item ≡ true) items
  each_item test [] e = tt
  each_item test (x ∷ xs) e = let parts = split_and (test x) (list_all test xs) e in (parts.0, each_item test xs parts.1)

  pub some_item : (test : A → Bool) (items : List A) → list_any test items ≡ true → (item : A) × IsAmong item items × (test item ≡ true)
  some_item test [] e = absurd (false≢true e)
  some_item test (x ∷ xs) e = by (split_or (test x) (list_any test xs) e) (some_item test xs)
    where
      by : (test x ≡ true) ⊎ (list_any test xs ≡ true) → (list_any test xs ≡ true → (item : A) × IsAmong item xs × (test item ≡ true)) → (item : A) × IsAmong item (x ∷ xs) × (test item ≡ true)
      by (inl here) later = (x, inl refl, here)
      by (inr there) later = let found = later there in (found.0, inr found.1, found.2)

  -- the list without an item at one of its places
  without : (item : A) (xs : List A) → IsAmong item xs → List A
  without item [] among = absurd among
  without item (x ∷ xs) (inl here) = xs
  without item (x ∷ xs) (inr later) = x ∷ without item xs later

  length-without : (item : A) (xs : List A) (among : IsAmong item xs) → length xs ≡ suc (length (without item xs among))
  unfolding without
  length-without item [] among = absurd among
  length-without item (x ∷ xs) (inl here) = refl
  length-without item (x ∷ xs) (inr later) = ap suc (length-without item xs later)

  stays : (item other : A) (xs : List A) (among : IsAmong item xs) → item ≢ other → IsAmong other xs → IsAmong other (without item xs among)
  unfolding without
  stays item other [] among differ there = absurd there
  stays item other (x ∷ xs) (inl here) differ (inl there) = absurd (differ (here ∙ sym there))
  stays item other (x ∷ xs) (inl here) differ (inr there) = there
  stays item other (x ∷ xs) (inr later) differ (inl there) = inl there
  stays item other (x ∷ xs) (inr later) differ (inr there) = inr (stays item other xs later differ there)

  all_stay : (item : A) (items xs : List A) (among : IsAmong item xs) → AllByRecursion (λ other. item ≢ other) items → AllByRecursion (λ other. IsAmong other xs) items → AllByRecursion (λ other. IsAmong other (without item xs among)) items
  all_stay item [] xs among differ all = tt
  all_stay item (other ∷ items) xs among differ all = (stays item other xs among differ.0 all.0, all_stay item items xs among differ.1 all.1)

  -- different items of a list are at most as many as it has
  pub no_more : (items xs : List A) → AllDiffer items → AllByRecursion (λ item. IsAmong item xs) items → length items ≤ length xs
  no_more [] xs differ all = omega arith
  no_more (item ∷ items) xs differ all =
      let one : length xs ≡ suc (length (without item xs all.0)) = length-without item xs all.0 in
      let others : length items ≤ length (without item xs all.0) = no_more items (without item xs all.0) differ.1 (all_stay item items xs all.0 differ.0 all.1) in
      omega arith
