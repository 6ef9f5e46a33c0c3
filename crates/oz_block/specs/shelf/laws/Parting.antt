-- The slots of chunks that pass a test, of the others, and of one more.
use Rattle.std.proofs.Common.{◌≡◌, ℕ, ◌<◌, eqb, Bool, true, false, cond, not, ◌||◌, List, [], ◌∷◌, length, filter, refl, sym, ap, ◌∙◌, eq-eqb, arith}
use Rattle.std.proofs.lemmas.Bool.{false≢true, false_from_ne_true, or_parts, or_from, or_left, or_right}
use Rattle.oz_entries.specs.declared.row.Chunk.{Chunk}
use Rattle.oz_entries.specs.Node.{HaveFreeSlots, or_slot, or_slots}
use Rattle.oz_entries.specs.Held.{any_in}
use Rattle.oz_block.specs.declared.shelf.written.Written.{Written}
use Rattle.oz_block.specs.shelf.Written.{chunks_in, inserted, is_behind}
use Rattle.oz_block.specs.shelf.laws.FreeSlots.{or_assoc, free_fewer, free_any, unused_parts}

or_swap : (a b c : Bool) → (a || (b || c)) ≡ (b || (a || c))
or_swap true true c = refl
or_swap true false c = refl
or_swap false b c = refl

or_last : (a b c : Bool) → ((a || b) || c) ≡ ((a || c) || b)
or_last true b c = refl
or_last false true true = refl
or_last false true false = refl
or_last false false true = refl
or_last false false false = refl

flip : (x y : ℕ) → eqb x y ≡ eqb y x
flip x y = grind arith

-- a slot is that of one that passes, or of another
pub any_parts : (test : Written → Bool) (written : List Written) (slot : ℕ)
    → any_in (chunks_in written) slot ≡ (any_in (chunks_in (filter test written)) slot || any_in (chunks_in (filter (λ one. not (test one)) written)) slot)
any_parts test [] slot = refl
any_parts test (one ∷ written) slot = ap (λ (b : Bool). eqb one.chunk.slot slot || b) (any_parts test written slot) ∙ by (test one)
  where
    passed : List Written
    passed = filter test written

    others : List Written
    others = filter (λ one. not (test one)) written

    by : (b : Bool) → (eqb one.chunk.slot slot || (any_in (chunks_in passed) slot || any_in (chunks_in others) slot))
        ≡ (any_in (chunks_in (cond b (one ∷ passed) passed)) slot || any_in (chunks_in (cond (not b) (one ∷ others) others)) slot)
    by true = sym (or_assoc (eqb one.chunk.slot slot) (any_in (chunks_in passed) slot) (any_in (chunks_in others) slot))
    by false = or_swap (eqb one.chunk.slot slot) (any_in (chunks_in passed) slot) (any_in (chunks_in others) slot)

pub any_of : (test : Written → Bool) (written : List Written) (slot : ℕ) → any_in (chunks_in (filter test written)) slot ≡ true
    → any_in (chunks_in written) slot ≡ true
any_of test written slot has = any_parts test written slot
    ∙ or_left (any_in (chunks_in (filter test written)) slot) (any_in (chunks_in (filter (λ one. not (test one)) written)) slot) has

-- those that pass have free slots
pub free_passed : (used : ℕ → Bool) (test : Written → Bool) (written : List Written) → HaveFreeSlots used (chunks_in written)
    → HaveFreeSlots used (chunks_in (filter test written))
free_passed used test [] free = tt
free_passed used test (one ∷ written) free = by (test one) (free_passed (or_slot used one.chunk.slot) test written free.3)
  where
    by : (b : Bool) → HaveFreeSlots (or_slot used one.chunk.slot) (chunks_in (filter test written))
        → HaveFreeSlots used (chunks_in (cond b (one ∷ filter test written) (filter test written)))
    by true rest = (free.0, free.1, free.2, rest)
    by false rest = free_fewer (or_slot used one.chunk.slot) used (chunks_in (filter test written))
        (λ slot none. (or_parts (used slot) (eqb one.chunk.slot slot) none).0) rest

-- so have the others, beside these
pub free_others : (used : ℕ → Bool) (test : Written → Bool) (written : List Written) → HaveFreeSlots used (chunks_in written)
    → HaveFreeSlots (λ slot. used slot || any_in (chunks_in (filter test written)) slot) (chunks_in (filter (λ one. not (test one)) written))
free_others used test [] free = tt
free_others used test (one ∷ written) free = by (test one) (free_others (or_slot used one.chunk.slot) test written free.3)
  where
    own : ℕ
    own = one.chunk.slot

    passed : List Chunk
    passed = chunks_in (filter test written)

    others : List Chunk
    others = chunks_in (filter (λ one. not (test one)) written)

    apart : any_in passed own ≡ false
    apart = false_from_ne_true (any_in passed own)
        (λ has. false≢true (sym (free_any (or_slot used own) passed (free_passed (or_slot used own) test written free.3) own has)
        ∙ or_right (used own) (eqb own own) (eq-eqb own own refl)))

    by : (b : Bool) → HaveFreeSlots (λ slot. or_slot used own slot || any_in passed slot) others
        → HaveFreeSlots (λ slot. used slot || any_in (chunks_in (cond b (one ∷ filter test written) (filter test written))) slot)
        (chunks_in (cond (not b) (one ∷ filter (λ one. not (test one)) written) (filter (λ one. not (test one)) written)))
    by true rest = free_fewer (λ slot. or_slot used own slot || any_in passed slot) (λ slot. used slot || (eqb own slot || any_in passed slot)) others
        (λ slot none. sym (or_assoc (used slot) (eqb own slot) (any_in passed slot)) ∙ none) rest
    by false rest = (
      free.0,
      or_from (used own) (any_in passed own) free.1 apart,
      free.2,
      free_fewer (λ slot. or_slot used own slot || any_in passed slot) (or_slot (λ slot. used slot || any_in passed slot) own) others
          (λ slot none. or_last (used slot) (any_in passed slot) (eqb own slot) ∙ none) rest,
    )

-- no slot is that of one of these and of one of the others
pub apart_others : (used : ℕ → Bool) (test : Written → Bool) (written : List Written) → HaveFreeSlots used (chunks_in written) → (slot : ℕ)
    → any_in (chunks_in (filter test written)) slot ≡ true → (used slot ≡ false)
    × (any_in (chunks_in (filter (λ one. not (test one)) written)) slot ≡ false)
apart_others used test written free slot has = (
  free_any used (chunks_in (filter test written)) (free_passed used test written free) slot has,
  false_from_ne_true _
      (λ other. false≢true (sym (or_parts (used slot) (any_in (chunks_in (filter test written)) slot)
      (free_any (λ slot. used slot || any_in (chunks_in (filter test written)) slot) (chunks_in (filter (λ one. not (test one)) written))
      (free_others used test written free) slot other)).1 ∙ has)),
)

-- one slot more is in use
free_more : (used : ℕ → Bool) (chunks : List Chunk) (slot : ℕ) → HaveFreeSlots used chunks → any_in chunks slot ≡ false
    → HaveFreeSlots (or_slot used slot) chunks
free_more used [] slot free none = tt
free_more used (chunk ∷ chunks) slot free none =
    let both = or_parts (eqb chunk.slot slot) (any_in chunks slot) none in (
      free.0,
      or_from (used chunk.slot) (eqb slot chunk.slot) free.1 (flip slot chunk.slot ∙ both.0),
      free.2,
      free_fewer (or_slot (or_slot used chunk.slot) slot) (or_slot (or_slot used slot) chunk.slot) chunks
          (λ other none. or_last (used other) (eqb slot other) (eqb chunk.slot other) ∙ none) (free_more (or_slot used chunk.slot) chunks slot free.3 both.1),
    )

-- one chunk more has a slot of its own
pub free_inserted : (used : ℕ → Bool) (written : List Written) (one : Written) → HaveFreeSlots used (chunks_in written) → one.chunk.slot < 16384
    → or_slots used (chunks_in written) one.chunk.slot ≡ false → length one.chunk.digest ≡ 32 → HaveFreeSlots used (chunks_in (inserted written one))
free_inserted used [] one free below unused size = (below, unused, size, tt)
free_inserted used (first ∷ written) one free below unused size =
    by (is_behind first one) (free_inserted (or_slot used first.chunk.slot) written one free.3 below unused size)
  where
    by : (b : Bool) → HaveFreeSlots (or_slot used first.chunk.slot) (chunks_in (inserted written one))
        → HaveFreeSlots used (chunks_in (cond b (one ∷ first ∷ written) (first ∷ inserted written one)))
    by true rest = let both =
        unused_parts used (chunks_in (first ∷ written)) one.chunk.slot unused in
        (below, both.0, size, free_more used (chunks_in (first ∷ written)) one.chunk.slot free both.1)
    by false rest = (free.0, free.1, free.2, rest)

pub any_inserted : (written : List Written) (one : Written) (slot : ℕ)
    → any_in (chunks_in (inserted written one)) slot ≡ (eqb one.chunk.slot slot || any_in (chunks_in written) slot)
any_inserted [] one slot = refl
any_inserted (first ∷ written) one slot = by (is_behind first one) (any_inserted written one slot)
  where
    by : (b : Bool) → any_in (chunks_in (inserted written one)) slot ≡ (eqb one.chunk.slot slot || any_in (chunks_in written) slot)
        → any_in (chunks_in (cond b (one ∷ first ∷ written) (first ∷ inserted written one))) slot
        ≡ (eqb one.chunk.slot slot || (eqb first.chunk.slot slot || any_in (chunks_in written) slot))
    by true rest = refl
    by false rest = ap (λ (b : Bool). eqb first.chunk.slot slot || b) rest
        ∙ or_swap (eqb first.chunk.slot slot) (eqb one.chunk.slot slot) (any_in (chunks_in written) slot)
