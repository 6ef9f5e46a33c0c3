-- The lowest of the slots so far that pass the end.
use Rattle.std.proofs.Common.{◌≡◌, ◌⊎◌, ℕ, ◌+◌, ◌<◌, ◌≤◌, inl, inr, List, length, get_or, Option, None, Some, All, Contains, IfSome, IfNone, sym, ap, subst, arith}
use Rattle.std.proofs.lemmas.Bool.{cases_lt}
use Rattle.std.proofs.lemmas.List.Elements.{Contains-get_or, All-from_get_or}
use Rattle.oz_chunk.specs.Slots.{end_of}

abbrev pub IsLowest : List ℕ → ℕ → ℕ → Option ℕ → Type 0
IsLowest held size count None = (k : ℕ) → k < count → end_of (get_or held k 0) ≤ size
IsLowest held size count (Some slot) =
    Contains held slot × (size < end_of slot) × ((k : ℕ) → k < count → size < end_of (get_or held k 0) → slot ≤ get_or held k 0)

pub lowest_kept : (held : List ℕ) (size count : ℕ) (found : Option ℕ) → IsLowest held size count found → end_of (get_or held count 0) ≤ size → IsLowest held size (count + 1) found
lowest_kept held size count None none within = λ k less. elim (cases_lt k count) [
  | inl lower ↦ none k lower
  | inr last ↦ let same : k ≡ count = omega (arith, less, last) in subst (λ (n : ℕ). end_of (get_or held n 0) ≤ size) (sym same) within
]
lowest_kept held size count (Some slot) lowest within = (
  lowest.0,
  lowest.1,
  λ k less past. elim (cases_lt k count) [
    | inl lower ↦ lowest.2 k lower past
    | inr last ↦
        let same : get_or held k 0 ≡ get_or held count 0 = let e : k ≡ count = omega (arith, less, last) in ap (λ (n : ℕ). get_or held n 0) e in
        absurd (omega (arith, past, within, same))
  ],
)

pub lowest_taken : (held : List ℕ) (size count slot : ℕ) (found : Option ℕ) → IsLowest held size count found → count < length held → size < end_of (get_or held count 0)
    → (slot ≡ get_or held count 0) ⊎ (Some slot ≡ found) → slot ≤ get_or held count 0 → IfSome found (λ second. slot ≤ second) → IsLowest held size (count + 1) (Some slot)
lowest_taken held size count slot found lowest within past one first second = (is_held found lowest one, passes found lowest one, each found lowest second)
  where
    is_held : (o : Option ℕ) → IsLowest held size count o → (slot ≡ get_or held count 0) ⊎ (Some slot ≡ o) → Contains held slot
    is_held o low (inl same) = subst (Contains held) (sym same) (Contains-get_or held count 0 within)
    is_held None low (inr same) = absurd cc
    is_held (Some other) low (inr same) = subst (Contains held) (cc same) low.0

    passes : (o : Option ℕ) → IsLowest held size count o → (slot ≡ get_or held count 0) ⊎ (Some slot ≡ o) → size < end_of slot
    passes o low (inl same) = subst (λ (n : ℕ). size < end_of n) (sym same) past
    passes None low (inr same) = absurd cc
    passes (Some other) low (inr same) = subst (λ (n : ℕ). size < end_of n) (cc same) low.1

    each : (o : Option ℕ) → IsLowest held size count o → IfSome o (λ other. slot ≤ other) → (k : ℕ) → k < count + 1 → size < end_of (get_or held k 0) → slot ≤ get_or held k 0
    each o low le k less beyond = elim (cases_lt k count) [
      | inl lower ↦ earlier o low le k lower beyond
      | inr last ↦ let same : k ≡ count = omega (arith, less, last) in subst (λ (n : ℕ). slot ≤ get_or held n 0) (sym same) first
    ]
      where
        earlier : (o : Option ℕ) → IsLowest held size count o → IfSome o (λ other. slot ≤ other) → (k : ℕ) → k < count → size < end_of (get_or held k 0) → slot ≤ get_or held k 0
        earlier None low le k lower beyond = absurd (omega (arith, low k lower, beyond))
        earlier (Some other) low le k lower beyond = omega (arith, le, low.2 k lower beyond)

pub lowest_within : (held : List ℕ) (size : ℕ) (found : Option ℕ) → IsLowest held size (length held) found → IfNone found (All (λ slot. end_of slot ≤ size) held)
lowest_within held size None none = All-from_get_or (λ slot. end_of slot ≤ size) held 0 none
lowest_within held size (Some slot) lowest = tt

pub lowest_held : (held : List ℕ) (size count : ℕ) (found : Option ℕ) → IsLowest held size count found → IfSome found (Contains held)
lowest_held held size count None none = tt
lowest_held held size count (Some slot) lowest = lowest.0

pub lowest_past : (held : List ℕ) (size count : ℕ) (found : Option ℕ) → IsLowest held size count found → IfSome found (λ slot. size < end_of slot)
lowest_past held size count None none = tt
lowest_past held size count (Some slot) lowest = lowest.1

pub lowest_of_all : (held : List ℕ) (size : ℕ) (found : Option ℕ) → IsLowest held size (length held) found → IfSome found (λ slot. All (λ other. size < end_of other → slot ≤ other) held)
lowest_of_all held size None none = tt
lowest_of_all held size (Some slot) lowest = All-from_get_or (λ other. size < end_of other → slot ≤ other) held 0 lowest.2
