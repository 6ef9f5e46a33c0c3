-- How far the slots in use were listed.
use Rattle.std.proofs.Common.{◌≡◌, ◌↔◌, inl, inr, ℕ, ◌+◌, ◌<◌, Bool, true, false, cond, IsTrue, Contains, All, List, [], ◌∷◌, ◌++◌, sym, ap, subst, ◌∙◌, arith}
use Rattle.std.proofs.lemmas.Bool.{cases_lt, false≢true}
use Rattle.std.proofs.lemmas.List.{append-nil}
use Rattle.std.proofs.lemmas.List.Elements.{All-nil, All-push, All-weaker, All-contains, Contains-append_left, Contains-push}

-- those in use below i are listed
abbrev pub IsBelow : (ℕ → Bool) → ℕ → ℕ → Type 0
IsBelow used i slot = (slot < i) × (used slot ≡ true)

pub record Lists (used : ℕ → Bool) (slots : List ℕ) (i : ℕ) : Type 0 where
  pub only : All (IsBelow used i) slots
  pub each : (slot : ℕ) → IsBelow used i slot → Contains slots slot

pub lists_none : (used : ℕ → Bool) → Lists used [] 0
lists_none used = record { only = All-nil (IsBelow used 0); each = λ slot below. absurd (omega (arith, below.0)) }

pub lists_more : (used : ℕ → Bool) (slots after : List ℕ) (i : ℕ) (is_one : Bool) → Lists used slots i → is_one ≡ used i → after ≡ slots ++ cond is_one (i ∷ []) [] → Lists used after (i + 1)
lists_more used slots after i true lists is made = subst (λ (l : List ℕ). Lists used l (i + 1)) (sym made) (record {
  only = All-push (IsBelow used (i + 1)) slots i (All-weaker (IsBelow used i) (IsBelow used (i + 1)) (λ slot low. (omega (arith, low.0), low.1)) slots lists.only) (omega arith, sym is);
  each = λ slot low. elim (cases_lt slot i) [
    | inl lower ↦ Contains-append_left slots (i ∷ []) slot (lists.each slot (lower, low.1))
    | inr last ↦ let same : slot ≡ i = omega (arith, low.0, last) in subst (Contains (slots ++ i ∷ [])) (sym same) (Contains-push slots i)
  ];
})
lists_more used slots after i false lists is made = subst (λ (l : List ℕ). Lists used l (i + 1)) (sym (made ∙ append-nil slots)) (record {
  only = All-weaker (IsBelow used i) (IsBelow used (i + 1)) (λ slot low. (omega (arith, low.0), low.1)) slots lists.only;
  each = λ slot low. elim (cases_lt slot i) [
    | inl lower ↦ lists.each slot (lower, low.1)
    | inr last ↦ let same : slot ≡ i = omega (arith, low.0, last) in absurd (false≢true (is ∙ (ap used (sym same) ∙ low.1)))
  ];
})

pub lists_all : (used : ℕ → Bool) (slots : List ℕ) (i : ℕ) → Lists used slots i → (slot : ℕ) → slot < i → IsTrue (used slot) ↔ Contains slots slot
lists_all used slots i lists slot below = (λ is. lists.each slot (below, is), λ has. (All-contains (IsBelow used i) slots slot lists.only has).1)

pub lists_only : (used : ℕ → Bool) (slots : List ℕ) (i : ℕ) → Lists used slots i → (slot : ℕ) → Contains slots slot → IsTrue (used slot)
lists_only used slots i lists slot has = (All-contains (IsBelow used i) slots slot lists.only has).1
