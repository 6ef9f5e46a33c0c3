-- What is left in use once blocks are gone.
use Rattle.std.proofs.Common.{◌≡◌, ℕ, ◌<◌, eqb, Bool, true, false, cond, ◌||◌, ◌&&◌, List, [], ◌∷◌, Option, None, Some, is_some, IfSome, refl, sym, ap, subst, ◌∙◌}
use Rattle.std.proofs.lemmas.Bool.{false≢true}
use Rattle.oz_chunk.specs.Slots.{IsWithin}
use Rattle.oz_chunk.specs.Taken.{is_taken}
use Rattle.oz_entries.specs.declared.row.Chunk.{Chunk}
use Rattle.oz_entries.specs.Held.{any_in, IsSound, is_freed}
use Rattle.oz_entries.specs.Node.{Node, HaveFreeSlots, or_slot, or_slots, is_used, is_held, is_in, unless_gone}
use Rattle.oz_entries.specs.laws.Drops.{is_theirs, nobody}
use Rattle.oz_entries.specs.laws.Sound.{free_slot}
use Rattle.oz_fields.specs.declared.block.Block.{Block}
use Rattle.oz_block.specs.declared.shelf.written.Written.{Written}
use Rattle.oz_block.specs.shelf.Shelf.{ShelfView, Rests, HaveSame}
use Rattle.oz_block.specs.shelf.Written.{chunks_in}
use Rattle.oz_world.specs.Disk.{Seen}

or_slots_parts : (used : ℕ → Bool) (chunks : List Chunk) (slot : ℕ) → or_slots used chunks slot ≡ (used slot || any_in chunks slot)
or_slots_parts used [] slot = none (used slot)
  where
    none : (b : Bool) → b ≡ (b || false)
    none true = refl
    none false = refl
or_slots_parts used (chunk ∷ chunks) slot = or_slots_parts (or_slot used chunk.slot) chunks slot ∙ grouped (used slot) (eqb chunk.slot slot) (any_in chunks slot)
  where
    grouped : (a b c : Bool) → ((a || b) || c) ≡ (a || (b || c))
    grouped true b c = refl
    grouped false b c = refl

free_of_fewer : (used fewer : ℕ → Bool) (chunks : List Chunk) → ((slot : ℕ) → used slot ≡ false → fewer slot ≡ false) → HaveFreeSlots used chunks → HaveFreeSlots fewer chunks
free_of_fewer used fewer [] less free = tt
free_of_fewer used fewer (chunk ∷ chunks) less free =
    (free.0, less chunk.slot free.1, free.2, free_of_fewer (or_slot used chunk.slot) (or_slot fewer chunk.slot) chunks (λ slot none. both (used slot) (fewer slot) (eqb chunk.slot slot) (less slot) none) free.3)
  where
    both : (u f s : Bool) → (u ≡ false → f ≡ false) → (u || s) ≡ false → (f || s) ≡ false
    both true f s less none = absurd (false≢true (sym none))
    both false f s less none = ap (λ (b : Bool). b || s) (less refl) ∙ none

none_left : (b : Bool) → cond b false false ≡ false
none_left true = refl
none_left false = refl

was : (f t : Bool) → cond f false t ≡ true → t ≡ true
was true t is = absurd (false≢true is)
was false t is = is

-- slots in order stay so where some of those in use are set free
pub rests_freed : {D : Type 0} (used later freed : ℕ → Bool) (old new : ShelfView D) (disk : Seen) → ((slot : ℕ) → later slot ≡ cond (freed slot) false (used slot)) → ((slot : ℕ) → freed slot ≡ true → used slot ≡ true)
    → ((slot : ℕ) → is_taken new.slots.taken slot ≡ cond (freed slot) false (is_taken old.slots.taken slot)) → new.written ≡ old.written → Rests used old disk → Rests later new disk
rests_freed used later freed old new disk left in_use free written rests = record {
  free = subst (λ (l : List Written). HaveFreeSlots later (chunks_in l)) (sym written) (free_of_fewer used later (chunks_in old.written) (λ slot none. left slot ∙ (ap (λ (b : Bool). cond (freed slot) false b) none ∙ none_left (freed slot))) rests.free);
  taken = λ slot.
      free slot
      ∙ (ap (λ (b : Bool). cond (freed slot) false b) (rests.taken slot ∙ or_slots_parts used (chunks_in old.written) slot)
      ∙ (by (freed slot) slot refl ∙ (ap (λ (b : Bool). b || any_in (chunks_in old.written) slot) (sym (left slot)) ∙ (sym (or_slots_parts later (chunks_in old.written) slot) ∙ ap (λ (l : List Written). or_slots later (chunks_in l) slot) (sym written)))));
  within = fewer disk.told rests.within;
  settled = settle disk.told rests.settled;
} where
  by : (f : Bool) (slot : ℕ) → f ≡ freed slot → cond f false (used slot || any_in (chunks_in old.written) slot) ≡ (cond f false (used slot) || any_in (chunks_in old.written) slot)
  by false slot is = refl
  by true slot is = not_written (any_in (chunks_in old.written) slot) refl
    where
      not_written : (b : Bool) → b ≡ any_in (chunks_in old.written) slot → false ≡ b
      not_written false has = refl
      not_written true has = sym (free_slot used (chunks_in old.written) rests.free slot (sym has)) ∙ in_use slot (sym is)

  fewer : (told : Option (List ℕ)) → IfSome told (λ bytes. (slot : ℕ) → is_taken old.slots.taken slot ≡ true → IsWithin slot bytes) → IfSome told (λ bytes. (slot : ℕ) → is_taken new.slots.taken slot ≡ true → IsWithin slot bytes)
  fewer None within = tt
  fewer (Some bytes) within = λ slot is. within slot (was (freed slot) (is_taken old.slots.taken slot) (sym (free slot) ∙ is))

  settle : (told : Option (List ℕ)) → IfSome told (λ bytes. (image : List ℕ) → disk.image disk.clock image → HaveSame used bytes image) → IfSome told (λ bytes. (image : List ℕ) → disk.image disk.clock image → HaveSame later bytes image)
  settle None all = tt
  settle (Some bytes) all = λ image here slot is. all image here slot (was (freed slot) (used slot) (sym (left slot) ∙ is))

-- which slots are in use once blocks are gone
pub left_in_use : (is_gone : Block → Bool) (user : Option Block) (small : Bool) → (is_some (unless_gone is_gone user) && small) ≡ cond (is_freed is_gone user) false (is_some user && small)
left_in_use is_gone None small = refl
left_in_use is_gone (Some block) small = by (is_gone block)
  where
    by : (b : Bool) → (is_some (cond b None (Some block)) && small) ≡ cond b false (true && small)
    by true = refl
    by false = refl

-- no slot is that of a block of a replica that holds none
pub none_freed : (container : ℕ) (node : Node) → IsSound node → ((slot : ℕ) → is_used node slot ≡ true → slot < 16384) → ((local : ℕ) → is_held node (record { container = container; local = local }) ≡ false) → (slot : ℕ) → is_freed (is_in container) (node.users slot) ≡ false
none_freed container node sound small none slot = same (node.users slot) ∙ nobody container node sound none slot
  where
    same : (user : Option Block) → is_freed (is_in container) user ≡ is_theirs container user
    same None = refl
    same (Some block) = refl
