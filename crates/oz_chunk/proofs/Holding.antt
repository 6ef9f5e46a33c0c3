-- How far a table holds the slots of a list.
use Rattle.std.proofs.Common.{◌≡◌, ◌↔◌, ℕ, ◌+◌, ◌<◌, ◌≤◌, All, inl, inr, eqb, ltb, ◌&&◌, Bool, true, false, cond, IsTrue, List, length, get_or, Contains, refl, sym, ◌∙◌, ap, subst, arith, eqb-true, ltb-true, eq-eqb}
use Rattle.std.proofs.lemmas.Bool.{cases_lt, and_parts, false≢true, lt-ltb}
use Rattle.std.proofs.lemmas.List.Elements.{Contains-get_or, All-contains, All-from_get_or}
use Rattle.oz_chunk.specs.Taken.{is_taken, Holds}

pub record HoldsSome (held : List ℕ) (count : ℕ) (taken : List Bool) : Type 0 where
  pub only : (slot : ℕ) → is_taken taken slot ≡ true → (slot < 16384) × Contains held slot
  pub each : (k : ℕ) → k < count → get_or held k 0 < 16384 → is_taken taken (get_or held k 0) ≡ true

pub holds_none : (held : List ℕ) (taken : List Bool) → ((slot : ℕ) → is_taken taken slot ≡ false) → HoldsSome held 0 taken
holds_none held taken free = record {
  only = λ slot is. absurd (false≢true (sym (free slot) ∙ is));
  each = λ k less within. absurd (omega (arith, less));
}

pub holds_more : (held : List ℕ) (count : ℕ) (slot : ℕ) (before after : List Bool) → HoldsSome held count before → count < length held → slot ≡ get_or held count 0 → Holds slot before after → HoldsSome held (count + 1) after
holds_more held count slot before after some within is holds = record {
  only = λ other taken. is_held other ((eqb other slot) && ltb slot 16384) refl taken;
  each = λ k less small. elim (cases_lt k count) [
    | inl lower ↦ stays (get_or held k 0) (some.each k lower small)
    | inr last ↦
        let same : k ≡ count = omega (arith, less, last) in
        let this : get_or held k 0 ≡ slot = ap (λ (n : ℕ). get_or held n 0) same ∙ sym is in
        new (get_or held k 0) this small
  ];
}
  where
    is_held : (other : ℕ) (test : Bool) → test ≡ ((eqb other slot) && ltb slot 16384) → is_taken after other ≡ true → (other < 16384) × Contains held other
    is_held other true is_test taken =
        let both = and_parts (eqb other slot) (ltb slot 16384) (sym is_test) in
        let same : other ≡ slot = eqb-true other slot both.0 in
        let small : slot < 16384 = ltb-true slot 16384 both.1 in
        (omega (arith, same, small), subst (Contains held) (sym (same ∙ is)) (Contains-get_or held count 0 within))
    is_held other false is_test taken =
        some.only other (sym (holds other ∙ ap (λ (t : Bool). cond t true (is_taken before other)) (sym is_test)) ∙ taken)

    stays : (other : ℕ) → is_taken before other ≡ true → is_taken after other ≡ true
    stays other taken = holds other ∙ kept ((eqb other slot) && ltb slot 16384)
      where
        kept : (t : Bool) → cond t true (is_taken before other) ≡ true
        kept true = refl
        kept false = taken

    new : (other : ℕ) → other ≡ slot → other < 16384 → is_taken after other ≡ true
    new other same small =
        let first : eqb other slot ≡ true = eq-eqb other slot same in
        let second : ltb slot 16384 ≡ true = lt-ltb slot 16384 (omega (arith, same, small)) in
        holds other ∙ rw (first, second) refl

pub holds_all : (held : List ℕ) (count : ℕ) (taken : List Bool) → HoldsSome held count taken → length held ≤ count → (slot : ℕ) → IsTrue (is_taken taken slot) ↔ ((slot < 16384) × Contains held slot)
holds_all held count taken some whole slot = (some.only slot, λ both. All-contains (λ other. other < 16384 → is_taken taken other ≡ true) held slot all both.1 both.0)
  where
    all : All (λ other. other < 16384 → is_taken taken other ≡ true) held
    all = All-from_get_or (λ other. other < 16384 → is_taken taken other ≡ true) held 0 (λ k less. some.each k (omega (arith, less, whole)))
