-- What is held within what others hold, up to a place in a list.
use Rattle.std.proofs.Common.{◌≡◌, ⊎_elim, ◌⊎◌, ℕ, ◌+◌, ◌<◌, ◌≤◌, true, false, List, length}
use Rattle.std.proofs.Common.{get_or, take, Contains, sym, subst, take_all}
use Rattle.std.proofs.lemmas.List.{take_more}
use Rattle.std.proofs.lemmas.List.Elements.{All-get_or, All-more, Contains-get_or, Contains-push_cases}
use Rattle.std.specs.List.{All}
use Rattle.oz_repl.specs.repl.View.{HoldsWithin}
use Rattle.oz_repl.specs.repl.Listed.{is_among}
use Rattle.oz_repl.proofs.Tests.{among, not_among}

module _ (logged held other : List ℕ) where
  pub not_within : (i : ℕ) → i < length held → is_among logged (get_or held i 0) ≡ false
      → is_among other (get_or held i 0) ≡ false → HoldsWithin logged held other → ⊥
  not_within i lt unlogged lacking within =
      not_among other (get_or held i 0) lacking (within (get_or held i 0) (not_among logged (get_or held i 0) unlogged) (Contains-get_or held i 0 lt))

  pub within_more : (i : ℕ) → i < length held → HoldsWithin logged (take i held) other
      → (is_among logged (get_or held i 0) ≡ true) ⊎ (is_among other (get_or held i 0) ≡ true) → HoldsWithin logged (take (i + 1) held) other
  within_more i lt before this = λ local unlogged there.
      ⊎_elim (λ old. before local unlogged old)
      (λ same. ⊎_elim
      (λ is. absurd (unlogged (subst (Contains logged) same (among logged (get_or held i 0) is))))
      (λ is. subst (Contains other) same (among other (get_or held i 0) is))
      this)
      (Contains-push_cases (take i held) (get_or held i 0) local (subst (λ (l : List ℕ). Contains l local) (take_more held i 0 lt) there))

-- at the end of a list all of it is taken
pub all_within : (logged held other : List ℕ) (i : ℕ) → length held ≤ i → HoldsWithin logged (take i held) other → HoldsWithin logged held other
all_within logged held other i past within = subst (λ (l : List ℕ). HoldsWithin logged l other) (take_all i held past) within

-- ---- what holds of each, up to a place

module _ {X : Type 0} (P : X → Type 0) (xs : List X) (i : ℕ) where
  pub all_more : (x : X) → i < length xs → x ≡ get_or xs i x → All P (take i xs) → P x → All P (take (i + 1) xs)
  all_more x lt is before here = All-more P xs i x lt before (subst P is here)

  pub not_all : (x : X) → i < length xs → x ≡ get_or xs i x → (P x → ⊥) → All P xs → ⊥
  not_all x lt is none all = none (subst P (sym is) (All-get_or P xs i x lt all))

  pub all_taken : length xs ≤ i → All P (take i xs) → All P xs
  all_taken past all = subst (All P) (take_all i xs past) all
