-- Listing the slots of blocks that go.
use Rattle.std.proofs.Common.{◌≡◌, ◌↔◌, inl, inr, ℕ, ◌+◌, ◌<◌, ◌≤◌, All, Bool, true, false, cond, List, [], ◌∷◌, ◌++◌, length, get_or, Option, None, Contains, sym, ap, subst, ◌∙◌, arith, length-append}
use Rattle.std.specs.List.Sorted.{IsStrictlyIncreasing}
use Rattle.std.proofs.lemmas.Bool.{cases_lt, false≢true}
use Rattle.std.proofs.lemmas.List.{append-nil, get_or_append_left, get_or_at, get_or_past}
use Rattle.std.proofs.lemmas.List.Elements.{All-nil, All-push, All-weaker, All-contains, All-get_or, Contains-append_left, Contains-push}
use Rattle.oz_fields.specs.declared.block.Block.{Block}
use Rattle.oz_entries.specs.Held.{user_of, is_freed}

-- the slot is below i, and that of a block that goes
abbrev pub GoesBelow : (Block → Bool) → List (Option Block) → ℕ → ℕ → Type 0
GoesBelow is_gone users i slot = (slot < i) × (is_freed is_gone (user_of users slot) ≡ true)

-- those below i are listed
pub record Lists (is_gone : Block → Bool) (users : List (Option Block)) (slots : List ℕ) (i : ℕ) : Type 0 where
  pub only : All (GoesBelow is_gone users i) slots
  pub each : (slot : ℕ) → GoesBelow is_gone users i slot → Contains slots slot
  pub rising : IsStrictlyIncreasing slots

pub lists_none : (is_gone : Block → Bool) (users : List (Option Block)) → Lists is_gone users [] 0
lists_none is_gone users = record {
  only = All-nil (GoesBelow is_gone users 0);
  each = λ slot below. absurd (omega (arith, below.0));
  rising = λ k less. absurd (omega (arith, less));
}

rises_on : (slots : List ℕ) (i : ℕ) → All (λ slot. slot < i) slots → IsStrictlyIncreasing slots → IsStrictlyIncreasing (slots ++ i ∷ [])
rises_on slots i below rising k less = elim (cases_lt (k + 1) (length slots)) [
  | inl within ↦
      let first : get_or (slots ++ i ∷ []) k 0 ≡ get_or slots k 0 = get_or_append_left slots (i ∷ []) 0 k (omega (arith, within)) in
      let second : get_or (slots ++ i ∷ []) (k + 1) 0 ≡ get_or slots (k + 1) 0 = get_or_append_left slots (i ∷ []) 0 (k + 1) within in
      omega (arith, first, second, rising k within)
  | inr last ↦
      let size = length-append slots (i ∷ []) in
      let ends : length slots ≡ k + 1 = omega (arith, less, last, size) in
      let first : get_or (slots ++ i ∷ []) k 0 ≡ get_or slots k 0 = get_or_append_left slots (i ∷ []) 0 k (omega (arith, ends)) in
      let second : get_or (slots ++ i ∷ []) (k + 1) 0 ≡ i = get_or_at slots i [] 0 (k + 1) ends in
      let low : get_or slots k 0 < i = All-get_or (λ slot. slot < i) slots k 0 (omega (arith, ends)) below in
      omega (arith, first, second, low)
]

pub lists_more : (is_gone : Block → Bool) (users : List (Option Block)) (slots after : List ℕ) (i : ℕ) (is_one : Bool) → Lists is_gone users slots i → is_one ≡ is_freed is_gone (user_of users i) → after ≡ slots ++ cond is_one (i ∷ []) []
    → Lists is_gone users after (i + 1)
lists_more is_gone users slots after i true lists is made = subst (λ (l : List ℕ). Lists is_gone users l (i + 1)) (sym made) (record {
  only = All-push (GoesBelow is_gone users (i + 1)) slots i (All-weaker (GoesBelow is_gone users i) (GoesBelow is_gone users (i + 1)) (λ slot low. (omega (arith, low.0), low.1)) slots lists.only) (omega arith, sym is);
  each = λ slot low. elim (cases_lt slot i) [
    | inl lower ↦ Contains-append_left slots (i ∷ []) slot (lists.each slot (lower, low.1))
    | inr last ↦ let same : slot ≡ i = omega (arith, low.0, last) in subst (Contains (slots ++ i ∷ [])) (sym same) (Contains-push slots i)
  ];
  rising = rises_on slots i (All-weaker (GoesBelow is_gone users i) (λ slot. slot < i) (λ slot low. low.0) slots lists.only) lists.rising;
})
lists_more is_gone users slots after i false lists is made = subst (λ (l : List ℕ). Lists is_gone users l (i + 1)) (sym (made ∙ append-nil slots)) (record {
  only = All-weaker (GoesBelow is_gone users i) (GoesBelow is_gone users (i + 1)) (λ slot low. (omega (arith, low.0), low.1)) slots lists.only;
  each = λ slot low. elim (cases_lt slot i) [
    | inl lower ↦ lists.each slot (lower, low.1)
    | inr last ↦ let same : slot ≡ i = omega (arith, low.0, last) in absurd (false≢true (is ∙ (ap (λ (n : ℕ). is_freed is_gone (user_of users n)) (sym same) ∙ low.1)))
  ];
  rising = lists.rising;
})

pub lists_all : (is_gone : Block → Bool) (users : List (Option Block)) (slots : List ℕ) (i : ℕ) → Lists is_gone users slots i → length users ≤ i → (slot : ℕ) → Contains slots slot ↔ (is_freed is_gone (user_of users slot) ≡ true)
lists_all is_gone users slots i lists whole slot = (λ has. (All-contains (GoesBelow is_gone users i) slots slot lists.only has).1, λ goes. lists.each slot (below goes, goes))
  where
    below : is_freed is_gone (user_of users slot) ≡ true → slot < i
    below goes = elim (cases_lt slot i) [
      | inl lower ↦ lower
      | inr beyond ↦ absurd (false≢true (sym (ap (is_freed is_gone) (get_or_past users slot None (omega (arith, beyond, whole)))) ∙ goes))
    ]
