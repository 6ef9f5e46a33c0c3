-- What a chunk that was written does to slots that were in order.
use Rattle.std.proofs.Common.{◌≡◌, ℕ, ◌<◌, ◌≤◌, eqb, ne_eqb, Bool, true, false, cond, not, ◌||◌, List, length, filter, Option, None, Some, IfSome, Result, Ok, refl, sym, ap, ◌∙◌, subst, arith}
use Rattle.std.proofs.lemmas.Bool.{false≢true, or_parts, or_from}
use Rattle.oz_chunk.specs.Disk.{Writes}
use Rattle.oz_chunk.specs.Slots.{start_of, slot_bytes, padded, IsWithin, Keeps}
use Rattle.oz_chunk.specs.Taken.{is_taken, AllTakenBelow, Marks}
use Rattle.oz_entries.specs.Held.{any_in}
use Rattle.oz_entries.specs.Node.{HaveFreeSlots, or_slots}
use Rattle.oz_world.specs.Disk.{Images, Seen, seen, Torn}
use Rattle.oz_world.specs.Moments.{Spans}
use Rattle.oz_block.specs.declared.shelf.written.Written.{Written}
use Rattle.oz_block.specs.shelf.Shelf.{ShelfView, Rests, AreSettled, KeepsTold}
use Rattle.oz_block.specs.shelf.Written.{chunks_in, inserted}
use Rattle.oz_block.specs.shelf.laws.FreeSlots.{or_slots_split, unused_parts}
use Rattle.oz_block.specs.shelf.laws.Parting.{any_parts, free_passed, apart_others, free_inserted, any_inserted}
use Rattle.oz_block.proofs.shelf_lemmas.Resting.{begins_within, settled_after, moves_keep, moves_any, within_after, stands_after, within_still, within_more, whose}

-- what is taken once one chunk is written to a free slot and those in its place are let go
abbrev pub IsTakenNow : (Written → Bool) → List Written → ℕ → List Bool → List Bool → Type 0
IsTakenNow test written slot before after =
    (s : ℕ) → is_taken after s ≡ cond (any_in (chunks_in (filter test written)) s) false (cond (eqb s slot) true (is_taken before s))

pub is_taken_now : (test : Written → Bool) (written : List Written) (slot : ℕ) (before between after : List Bool) → Marks slot true before between → ((s : ℕ) → is_taken after s ≡ cond (any_in (chunks_in (filter test written)) s) false (is_taken between s)) → IsTakenNow test written slot before after
is_taken_now test written slot before between after marks free s = free s ∙ ap (λ (b : Bool). cond (any_in (chunks_in (filter test written)) s) false b) (marks s)

-- a slot that was free is that of no chunk
unused_others : (used : ℕ → Bool) (test : Written → Bool) (written : List Written) (slot : ℕ) → or_slots used (chunks_in written) slot ≡ false → (any_in (chunks_in (filter test written)) slot ≡ false) × (or_slots used (chunks_in (filter (λ one. not (test one)) written)) slot ≡ false)
unused_others used test written slot unused =
    let both = unused_parts used (chunks_in written) slot unused in
    let parts = or_parts (any_in (chunks_in (filter test written)) slot) (any_in (chunks_in (filter (λ one. not (test one)) written)) slot) (sym (any_parts test written slot) ∙ both.1) in
    (parts.0, or_slots_split used (chunks_in (filter (λ one. not (test one)) written)) slot ∙ or_from (used slot) (any_in (chunks_in (filter (λ one. not (test one)) written)) slot) both.0 parts.1)

module _ (used : ℕ → Bool) (test : Written → Bool) (written : List Written) (one : Written) (before after : List Bool) (free : HaveFreeSlots used (chunks_in written)) (all : (s : ℕ) → is_taken before s ≡ or_slots used (chunks_in written) s) (unused : is_taken before one.chunk.slot ≡ false) where
  abbrev others : List Written
  others = filter (λ other. not (test other)) written

  no_slot : or_slots used (chunks_in written) one.chunk.slot ≡ false
  no_slot = sym (all one.chunk.slot) ∙ unused

  pub free_now : one.chunk.slot < 16384 → length one.chunk.digest ≡ 32 → HaveFreeSlots used (chunks_in (inserted others one))
  free_now below size = free_inserted used others one (free_passed used (λ other. not (test other)) written free) below (unused_others used test written one.chunk.slot no_slot).1 size

  pub taken_now : IsTakenNow test written one.chunk.slot before after → (s : ℕ) → is_taken after s ≡ or_slots used (chunks_in (inserted others one)) s
  taken_now now s =
      now s
      ∙ (ap (λ (b : Bool). cond (any_in (chunks_in (filter test written)) s) false (cond (eqb s one.chunk.slot) true b)) (whose used test written (is_taken before s) s (all s))
      ∙ (by (used s) (any_in (chunks_in (filter test written)) s) (any_in (chunks_in others) s) (eqb s one.chunk.slot) (eqb one.chunk.slot s) (flip s one.chunk.slot) (apart_others used test written free s) (λ has. ne_eqb s one.chunk.slot (λ same. false≢true (sym (unused_others used test written one.chunk.slot no_slot).0 ∙ (ap (any_in (chunks_in (filter test written))) (sym same) ∙ has))))
      ∙ (ap (λ (b : Bool). used s || b) (sym (any_inserted others one s)) ∙ sym (or_slots_split used (chunks_in (inserted others one)) s))))
    where
      flip : (x y : ℕ) → eqb x y ≡ eqb y x
      flip x y = grind arith

      by : (u a b e f : Bool) → e ≡ f → (a ≡ true → (u ≡ false) × (b ≡ false)) → (a ≡ true → e ≡ false) → cond a false (cond e true (u || (a || b))) ≡ (u || (f || b))
      by u true b e f same apart differ = sym (or_from u (f || b) (apart refl).0 (or_from f b (sym same ∙ differ refl) (apart refl).1))
      by true false b true f same apart differ = refl
      by false false b true f same apart differ = ap (λ (t : Bool). t || b) same
      by u false b false f same apart differ = ap (λ (t : Bool). u || (t || b)) same

  pub others_taken : IsTakenNow test written one.chunk.slot before after → (s : ℕ) → is_taken after s ≡ true → (s ≡ one.chunk.slot → ⊥) → is_taken before s ≡ true
  others_taken now s is apart = by (any_in (chunks_in (filter test written)) s) (eqb s one.chunk.slot) (ne_eqb s one.chunk.slot apart) (sym (now s) ∙ is)
    where
      by : (a e : Bool) → e ≡ false → cond a false (cond e true (is_taken before s)) ≡ true → is_taken before s ≡ true
      by true e none never = absurd (false≢true never)
      by false true none is = absurd (false≢true (sym none))
      by false false none is = is

-- the first free slot begins within the disk
pub there_of : (taken : List Bool) (slot : ℕ) (told : Option (List ℕ)) → AllTakenBelow slot taken → IfSome told (λ bytes. (other : ℕ) → is_taken taken other ≡ true → IsWithin other bytes) → IfSome told (λ bytes. start_of slot ≤ length bytes)
there_of taken slot None below within = tt
there_of taken slot (Some bytes) below within = begins_within taken slot bytes below within

module _ {D : Type 0} (told : D → Option (List ℕ)) (clock : D → ℕ) (image : D → Images) (faults : D → ℕ) where
  abbrev at : D → Seen
  at disk = seen (told disk) (clock disk) (image disk) (faults disk)

  module _ {T E : Type 0} where
    pub write_kept : (taken : List Bool) (slot : ℕ) (filling : List ℕ) (disk between after : D) (result : Result T E) → is_taken taken slot ≡ false → between ≡ disk → Writes slot filling (at between) (at after) result → KeepsTold (is_taken taken) (told disk) (told after)
    write_kept taken slot filling disk between after result free same writes =
        subst (λ (d : D). KeepsTold (is_taken taken) (told d) (told after)) same (moves_keep (is_taken taken) slot (told between) (told after) free writes.torn)

    pub write_settled : (used : ℕ → Bool) (old : ShelfView D) (slot : ℕ) (filling : List ℕ) (disk between after : D) (result : Result T E) → Rests used old (at disk) → is_taken old.slots.taken slot ≡ false → between ≡ disk → Writes slot filling (at between) (at after) result
        → ((kept : ℕ → Bool) → kept slot ≡ false → Spans (Keeps kept) (clock between) (clock after) (image between) (image after)) → AreSettled used (at after)
    write_settled used old slot filling disk between after result rests free same writes others =
        let apart : used slot ≡ false = (unused_parts used (chunks_in old.written) slot (sym (rests.taken slot) ∙ free)).0 in
        settled_after used (at between) (at after) (subst (λ (d : D). AreSettled used (at d)) (sym same) rests.settled) (moves_keep used slot (told between) (told after) apart writes.torn) (moves_any (Torn (start_of slot) 16384) (told between) (told after) writes.torn) (others used apart)

    pub write_rests : (used : ℕ → Bool) (test : Written → Bool) (one : Written) (bytes : List ℕ) (old new : ShelfView D) (disk between after last : D) (x : T) → Rests used old (at disk) → one.chunk.slot < 16384 → is_taken old.slots.taken one.chunk.slot ≡ false → length one.chunk.digest ≡ 32 → length bytes ≤ 16384 → AllTakenBelow one.chunk.slot old.slots.taken
        → IsTakenNow test old.written one.chunk.slot old.slots.taken new.slots.taken → new.written ≡ inserted (filter (λ other. not (test other)) old.written) one → between ≡ disk → last ≡ after → Writes {T = T} {E = E} one.chunk.slot (padded bytes) (at between) (at after) (Ok x)
        → ((kept : ℕ → Bool) → kept one.chunk.slot ≡ false → Spans (Keeps kept) (clock between) (clock after) (image between) (image after)) → Rests used new (at last)
    write_rests used test one bytes old new disk between after last x rests below free size small lowest now listed same ends writes others =
        subst (λ (d : D). Rests used new (at d)) (sym ends) (record {
          free = subst (λ (l : List Written). HaveFreeSlots used (chunks_in l)) (sym listed) (free_now used test old.written one old.slots.taken new.slots.taken rests.free rests.taken free below size);
          taken = λ s. taken_now used test old.written one old.slots.taken new.slots.taken rests.free rests.taken free now s ∙ ap (λ (l : List Written). or_slots used (chunks_in l) s) (sym listed);
          within =
              let was : IfSome (told between) (λ b. (s : ℕ) → is_taken old.slots.taken s ≡ true → IsWithin s b) = subst (λ (d : D). IfSome (told d) (λ b. (s : ℕ) → is_taken old.slots.taken s ≡ true → IsWithin s b)) (sym same) rests.within in
              within_more (is_taken old.slots.taken) (is_taken new.slots.taken) one.chunk.slot (told after) (others_taken used test old.written one old.slots.taken new.slots.taken rests.free rests.taken free now)
              (within_still (is_taken old.slots.taken) (start_of one.chunk.slot) 16384 (told between) (told after) writes.torn was)
              (within_after one.chunk.slot bytes (told between) (told after) small writes.written (there_of old.slots.taken one.chunk.slot (told between) lowest was));
          settled = write_settled used old one.chunk.slot (padded bytes) disk between after (Ok x) rests free same writes others;
        })

    pub write_within : (old : ShelfView D) (slot : ℕ) (bytes : List ℕ) (disk between after last : D) (x : T) → IfSome (told disk) (λ b. (s : ℕ) → is_taken old.slots.taken s ≡ true → IsWithin s b) → length bytes ≤ 16384 → AllTakenBelow slot old.slots.taken → between ≡ disk → last ≡ after
        → Writes {T = T} {E = E} slot (padded bytes) (at between) (at after) (Ok x) → IfSome (told last) (IsWithin slot) × IfSome (told last) (λ d. slot_bytes slot d ≡ padded bytes)
    write_within old slot bytes disk between after last x within small lowest same ends writes =
        let was : IfSome (told between) (λ b. (s : ℕ) → is_taken old.slots.taken s ≡ true → IsWithin s b) = subst (λ (d : D). IfSome (told d) (λ b. (s : ℕ) → is_taken old.slots.taken s ≡ true → IsWithin s b)) (sym same) within in
        let there = there_of old.slots.taken slot (told between) lowest was in
        subst (λ (d : D). IfSome (told d) (IsWithin slot) × IfSome (told d) (λ b. slot_bytes slot b ≡ padded bytes)) (sym ends) (within_after slot bytes (told between) (told after) small writes.written there, stands_after slot bytes (told between) (told after) small writes.written there)
