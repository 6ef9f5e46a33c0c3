-- Chunks that have free slots, one more and one less.
use Rattle.std.proofs.Common.{◌≡◌, ℕ, eqb, Bool, true, false, ◌||◌, List, [], ◌∷◌, refl, sym, ap, ◌∙◌}
use Rattle.std.proofs.lemmas.Bool.{false≢true}
use Rattle.oz_entries.specs.declared.row.Chunk.{Chunk}
use Rattle.oz_entries.specs.Node.{HaveFreeSlots, or_slot, or_slots}
use Rattle.oz_entries.specs.Held.{any_in}
use Rattle.oz_entries.specs.laws.Sound.{free_slot}

pub or_assoc : (a b c : Bool) → ((a || b) || c) ≡ (a || (b || c))
or_assoc true b c = refl
or_assoc false b c = refl

-- a slot is in use, or one of those of the chunks
pub or_slots_split : (used : ℕ → Bool) (chunks : List Chunk) (slot : ℕ) → or_slots used chunks slot ≡ (used slot || any_in chunks slot)
or_slots_split used [] slot = none (used slot)
  where
    none : (b : Bool) → b ≡ (b || false)
    none true = refl
    none false = refl
or_slots_split used (chunk ∷ chunks) slot =
    or_slots_split (or_slot used chunk.slot) chunks slot ∙ or_assoc (used slot) (eqb chunk.slot slot) (any_in chunks slot)

-- fewer slots are in use
pub free_fewer : (used fewer : ℕ → Bool) (chunks : List Chunk) → ((slot : ℕ) → used slot ≡ false → fewer slot ≡ false) → HaveFreeSlots used chunks
    → HaveFreeSlots fewer chunks
free_fewer used fewer [] less free = tt
free_fewer used fewer (chunk ∷ chunks) less free = (
  free.0,
  less chunk.slot free.1,
  free.2,
  free_fewer (or_slot used chunk.slot) (or_slot fewer chunk.slot) chunks
      (λ slot none. both (used slot) (fewer slot) (eqb chunk.slot slot) (less slot) none) free.3,
)
  where
    both : (u f s : Bool) → (u ≡ false → f ≡ false) → (u || s) ≡ false → (f || s) ≡ false
    both true f s less none = absurd (false≢true (sym none))
    both false f s less none = ap (λ (b : Bool). b || s) (less refl) ∙ none

-- a slot of the chunks isn't in use
pub free_any : (used : ℕ → Bool) (chunks : List Chunk) → HaveFreeSlots used chunks → (slot : ℕ) → any_in chunks slot ≡ true → used slot ≡ false
free_any used chunks free slot has = free_slot used chunks free slot has

-- what isn't in use or taken
pub unused_parts : (used : ℕ → Bool) (chunks : List Chunk) (slot : ℕ) → or_slots used chunks slot ≡ false → (used slot ≡ false) × (any_in chunks slot ≡ false)
unused_parts used chunks slot none = parts (used slot) (any_in chunks slot) (sym (or_slots_split used chunks slot) ∙ none)
  where
    parts : (a b : Bool) → (a || b) ≡ false → (a ≡ false) × (b ≡ false)
    parts true b none = absurd (false≢true (sym none))
    parts false b none = (refl, none)
