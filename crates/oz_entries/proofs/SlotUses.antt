-- Which slots are in use, or those of chunks.
use Rattle.std.proofs.Common.{◌≡◌, ℕ, eqb, ◌||◌, Bool, true, false, List, [], ◌∷◌, refl, sym, ◌∙◌}
use Rattle.oz_entries.specs.declared.row.Chunk.{Chunk}
use Rattle.oz_entries.specs.Node.{or_slot, or_slots}
use Rattle.oz_entries.specs.Held.{any_in}

grouped : (a b c : Bool) → ((a || b) || c) ≡ (a || (b || c))
grouped true b c = refl
grouped false b c = refl

nothing : (a : Bool) → (a || false) ≡ a
nothing true = refl
nothing false = refl

pub used_or_in : (used : ℕ → Bool) (chunks : List Chunk) (slot : ℕ) → or_slots used chunks slot ≡ (used slot || any_in chunks slot)
used_or_in used [] slot = sym (nothing (used slot))
used_or_in used (chunk ∷ chunks) slot = used_or_in (or_slot used chunk.slot) chunks slot ∙ grouped (used slot) (eqb chunk.slot slot) (any_in chunks slot)
