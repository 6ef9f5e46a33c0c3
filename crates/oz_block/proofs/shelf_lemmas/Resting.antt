-- What writes, syncs and edits do to slots that are in order.
use Rattle.std.proofs.Common.{◌≡◌, inl, inr, ℕ, ◌-◌, ◌<◌, ◌≤◌, eqb, Bool, true, false, cond, ◌||◌, ◌↔◌, IsTrue, All, Contains, List, [], length, filter, not, Option, None, Some, IfSome, Result, Ok, refl, sym, ap, ◌∙◌, subst, arith, eqb-true, eq-eqb}
use Rattle.std.proofs.lemmas.Bool.{cases_lt, false≢true, or_from}
use Rattle.std.proofs.lemmas.List.Elements.{All-contains}
use Rattle.std.specs.Option.{option_map}
use Rattle.oz_chunk.specs.Disk.{Syncs}
use Rattle.oz_chunk.specs.Slots.{State as Slots, start_of, slot_bytes, padded, IsWithin, Keeps}
use Rattle.oz_chunk.specs.Taken.{is_taken, AllTakenBelow}
use Rattle.oz_chunk.specs.laws.Keeping.{stands, torn_keeps}
use Rattle.oz_entries.specs.declared.row.Chunk.{Chunk}
use Rattle.oz_entries.specs.Node.{HaveFreeSlots, or_slots}
use Rattle.oz_entries.specs.Held.{any_in}
use Rattle.oz_world.specs.Disk.{Images, Seen, Same, Torn, Moves, TellsAsBefore, overwritten, IsStable}
use Rattle.oz_world.specs.Moments.{Spans}
use Rattle.oz_block.specs.declared.shelf.written.Written.{Written}
use Rattle.oz_block.specs.shelf.Written.{chunks_in}
use Rattle.oz_block.specs.shelf.Shelf.{ShelfView, Rests, HaveSame, AreSettled, KeepsTold}
use Rattle.oz_block.specs.shelf.laws.FreeSlots.{or_assoc, or_slots_split, free_fewer}
use Rattle.oz_block.specs.shelf.laws.Parting.{any_parts, free_passed, free_others, apart_others}

-- each image of a later moment came from one of the first, or the moment is the same
came : (step : List ℕ → List ℕ → Type 0) (from to : ℕ) (old new : Images) → ((bytes : List ℕ) → step bytes bytes) → Spans step from to old new → (left : List ℕ) → new to left → (bytes : List ℕ) × old from bytes × step bytes left
came step from to old new none spans left here = elim (cases_lt from to) [
  | inl later ↦ spans.made to left later (omega arith) here
  | inr past ↦
      let same : to ≡ from = omega (arith, past, spans.elapses.later) in
      (left, (spans.elapses.kept from left (omega arith)).0 (subst (λ (n : ℕ). new n left) same here), none left)
]

-- a step that keeps some slots leaves them settled
pub settled_after : (kept : ℕ → Bool) (before after : Seen) → AreSettled kept before → KeepsTold kept before.told after.told → Moves (λ x y. Unit {0}) before.told after.told → Spans (Keeps kept) before.clock after.clock before.image after.image
    → AreSettled kept after
settled_after kept before after settled told moves spans = by before.told after.told refl refl
  where
    by : (old new : Option (List ℕ)) → old ≡ before.told → new ≡ after.told → IfSome new (λ bytes. (left : List ℕ) → after.image after.clock left → HaveSame kept bytes left)
    by old None was is = tt
    by None (Some bytes) was is = absurd (never (subst (λ (o : Option (List ℕ)). Moves (λ x y. Unit {0}) o after.told) (sym was) moves))
      where
        never : after.told ≡ None → ⊥
        never none = cc
    by (Some first) (Some bytes) was is = λ left here slot is_kept.
        let found = came (Keeps kept) before.clock after.clock before.image after.image (λ l s k w. (w, refl)) spans left here in
        let was_settled : (x : List ℕ) → before.image before.clock x → HaveSame kept first x = subst (λ (o : Option (List ℕ)). IfSome o (λ b. (x : List ℕ) → before.image before.clock x → HaveSame kept b x)) (sym was) settled in
        let same = was_settled found.0 found.1 slot is_kept in
        let on : Keeps kept first bytes = subst (λ (o : Option (List ℕ)). IfSome o (λ n. Keeps kept first n)) (sym is) (subst (λ (o : Option (List ℕ)). KeepsTold kept o after.told) (sym was) told) in
        let now = on slot is_kept same.0 in
        let then = found.2 slot is_kept same.1 in
        (now.0, then.0, then.1 ∙ (same.2 ∙ sym now.1))

-- a stable disk is settled
pub settled_stable : (kept : ℕ → Bool) (disk : Seen) → IfSome disk.told (λ bytes. (slot : ℕ) → kept slot ≡ true → IsWithin slot bytes) → IfSome disk.told (IsStable disk.image disk.clock) → AreSettled kept disk
settled_stable kept disk within stable = by disk.told within stable
  where
    by : (o : Option (List ℕ)) → IfSome o (λ bytes. (slot : ℕ) → kept slot ≡ true → IsWithin slot bytes) → IfSome o (IsStable disk.image disk.clock) → IfSome o (λ bytes. (left : List ℕ) → disk.image disk.clock left → HaveSame kept bytes left)
    by None within stable = tt
    by (Some bytes) within stable = λ left here slot is_kept.
        let same = stable left here in
        let there = within slot is_kept in
        (there, subst (λ (l : List ℕ). IsWithin slot l) (sym same) there, ap (slot_bytes slot) same)

-- the lowest free slot begins within the disk
pub begins_within : (taken : List Bool) (slot : ℕ) (bytes : List ℕ) → AllTakenBelow slot taken → ((other : ℕ) → is_taken taken other ≡ true → IsWithin other bytes) → start_of slot ≤ length bytes
begins_within taken slot bytes below within = elim (cases_lt 0 slot) [
  | inl more ↦ omega (arith, more, within (slot - 1) (below (slot - 1) (omega (arith, more))))
  | inr none ↦ omega (arith, none)
]

-- a torn write keeps the other slots of what is told
pub moves_keep : (kept : ℕ → Bool) (slot : ℕ) (before after : Option (List ℕ)) → kept slot ≡ false → Moves (Torn (start_of slot) 16384) before after → KeepsTold kept before after
moves_keep kept slot None after apart moves = tt
moves_keep kept slot (Some bytes) None apart moves = tt
moves_keep kept slot (Some bytes) (Some other) apart moves = torn_keeps kept slot bytes other apart moves

-- as told before
pub moves_any : (step : List ℕ → List ℕ → Type 0) (before after : Option (List ℕ)) → Moves step before after → Moves (λ x y. Unit {0}) before after
moves_any step None after moves = moves
moves_any step (Some bytes) None moves = moves
moves_any step (Some bytes) (Some other) moves = tt

-- what was written lies within the disk, and so does what lay there before
pub within_after : (slot : ℕ) (chunk : List ℕ) (before after : Option (List ℕ)) → length chunk ≤ 16384 → after ≡ option_map (overwritten (start_of slot) (padded chunk)) before → IfSome before (λ bytes. start_of slot ≤ length bytes) → IfSome after (IsWithin slot)
within_after slot chunk before after small is there = subst (λ (o : Option (List ℕ)). IfSome o (IsWithin slot)) (sym is) (by before there)
  where
    by : (o : Option (List ℕ)) → IfSome o (λ bytes. start_of slot ≤ length bytes) → IfSome (option_map (overwritten (start_of slot) (padded chunk)) o) (IsWithin slot)
    by None there = tt
    by (Some bytes) there = (stands slot chunk bytes there small).0

pub stands_after : (slot : ℕ) (chunk : List ℕ) (before after : Option (List ℕ)) → length chunk ≤ 16384 → after ≡ option_map (overwritten (start_of slot) (padded chunk)) before → IfSome before (λ bytes. start_of slot ≤ length bytes)
    → IfSome after (λ disk. slot_bytes slot disk ≡ padded chunk)
stands_after slot chunk before after small is there = subst (λ (o : Option (List ℕ)). IfSome o (λ disk. slot_bytes slot disk ≡ padded chunk)) (sym is) (by before there)
  where
    by : (o : Option (List ℕ)) → IfSome o (λ bytes. start_of slot ≤ length bytes) → IfSome (option_map (overwritten (start_of slot) (padded chunk)) o) (λ disk. slot_bytes slot disk ≡ padded chunk)
    by None there = tt
    by (Some bytes) there = (stands slot chunk bytes there small).1

-- slots that lay within the disk lie there still
pub within_still : (taken : ℕ → Bool) (pos count : ℕ) (before after : Option (List ℕ)) → Moves (Torn pos count) before after → IfSome before (λ bytes. (slot : ℕ) → taken slot ≡ true → IsWithin slot bytes) → IfSome after (λ bytes. (slot : ℕ) → taken slot ≡ true → IsWithin slot bytes)
within_still taken pos count before None moves within = tt
within_still taken pos count None (Some other) moves within = absurd cc
within_still taken pos count (Some bytes) (Some other) moves within = λ slot is. omega (arith, within slot is, moves.no_shorter)

-- those that were taken, and one more
pub within_more : (before after : ℕ → Bool) (slot : ℕ) (told : Option (List ℕ)) → ((s : ℕ) → after s ≡ true → (s ≡ slot → ⊥) → before s ≡ true) → IfSome told (λ bytes. (s : ℕ) → before s ≡ true → IsWithin s bytes) → IfSome told (IsWithin slot)
    → IfSome told (λ bytes. (s : ℕ) → after s ≡ true → IsWithin s bytes)
within_more before after slot None others within this = tt
within_more before after slot (Some bytes) others within this = λ s is. by s is (eqb s slot) refl
  where
    by : (s : ℕ) → after s ≡ true → (b : Bool) → b ≡ eqb s slot → IsWithin s bytes
    by s is true same = subst (λ (n : ℕ). IsWithin n bytes) (sym (eqb-true s slot (sym same))) this
    by s is false apart = within s (others s is (λ e. false≢true (apart ∙ eq-eqb s slot e)))

-- two tests with one meaning
pub one_test : (a b : Bool) → (a ≡ true → b ≡ true) → (b ≡ true → a ≡ true) → a ≡ b
one_test true b to from = sym (to refl)
one_test false true to from = from refl
one_test false false to from = refl

-- what is loaded is in order
pub load_rests : {D : Type 0} (used : ℕ → Bool) (shelf : ShelfView D) (disk : Seen) (told : Option (List ℕ)) (held : List ℕ) → shelf.written ≡ [] → ((s : ℕ) → IsTrue (is_taken shelf.slots.taken s) ↔ ((s < 16384) × Contains held s))
    → ((s : ℕ) → s < 16384 → IsTrue (used s) ↔ Contains held s) → ((s : ℕ) → used s ≡ true → s < 16384) → IfSome told (λ bytes. All (λ s. IsWithin s bytes) held) → disk.told ≡ told → IfSome told (IsStable disk.image disk.clock) → Rests used shelf disk
load_rests used shelf disk told held none taken is_held below within same stable = record {
  free = subst (λ (l : List Written). HaveFreeSlots used (chunks_in l)) (sym none) tt;
  taken = λ s. taken_is s ∙ ap (λ (l : List Written). or_slots used (chunks_in l) s) (sym none);
  within = subst (λ (o : Option (List ℕ)). IfSome o (λ bytes. (s : ℕ) → is_taken shelf.slots.taken s ≡ true → IsWithin s bytes)) (sym same) (all told within);
  settled = settled_stable used disk (subst (λ (o : Option (List ℕ)). IfSome o (λ bytes. (s : ℕ) → used s ≡ true → IsWithin s bytes)) (sym same) (all_used told within)) (subst (λ (o : Option (List ℕ)). IfSome o (IsStable disk.image disk.clock)) (sym same) stable);
} where
  taken_is : (s : ℕ) → is_taken shelf.slots.taken s ≡ used s
  taken_is s = one_test (is_taken shelf.slots.taken s) (used s) (λ is. let both = (taken s).0 is in (is_held s both.0).1 both.1) (λ is. (taken s).1 (below s is, (is_held s (below s is)).0 is))

  all : (o : Option (List ℕ)) → IfSome o (λ bytes. All (λ s. IsWithin s bytes) held) → IfSome o (λ bytes. (s : ℕ) → is_taken shelf.slots.taken s ≡ true → IsWithin s bytes)
  all None w = tt
  all (Some bytes) w = λ s is. All-contains (λ n. IsWithin n bytes) held s w ((taken s).0 is).1

  all_used : (o : Option (List ℕ)) → IfSome o (λ bytes. All (λ s. IsWithin s bytes) held) → IfSome o (λ bytes. (s : ℕ) → used s ≡ true → IsWithin s bytes)
  all_used None w = tt
  all_used (Some bytes) w = λ s is. all (Some bytes) w s (taken_is s ∙ is)

-- a slot that is taken is that of a block, of a chunk that passes, or of another
pub whose : (used : ℕ → Bool) (test : Written → Bool) (written : List Written) (taken : Bool) (s : ℕ) → taken ≡ or_slots used (chunks_in written) s → taken ≡ (used s || (any_in (chunks_in (filter test written)) s || any_in (chunks_in (filter (λ one. not (test one)) written)) s))
whose used test written taken s is = is ∙ (or_slots_split used (chunks_in written) s ∙ ap (λ (b : Bool). used s || b) (any_parts test written s))

-- the slots that are taken while blocks use others than before, all with the same meaning
pub rests_as : {D : Type 0} (used later : ℕ → Bool) (old new : ShelfView D) (before after : Seen) → Rests used old before → ((s : ℕ) → is_taken new.slots.taken s ≡ true → is_taken old.slots.taken s ≡ true) → HaveFreeSlots later (chunks_in new.written)
    → ((s : ℕ) → is_taken new.slots.taken s ≡ or_slots later (chunks_in new.written) s) → after.told ≡ before.told → AreSettled later after → Rests later new after
rests_as used later old new before after rests fewer free taken told settled = record {
  free = free;
  taken = taken;
  within = subst (λ (o : Option (List ℕ)). IfSome o (λ bytes. (s : ℕ) → is_taken new.slots.taken s ≡ true → IsWithin s bytes)) (sym told) (all before.told rests.within);
  settled = settled;
} where
  all : (o : Option (List ℕ)) → IfSome o (λ bytes. (s : ℕ) → is_taken old.slots.taken s ≡ true → IsWithin s bytes) → IfSome o (λ bytes. (s : ℕ) → is_taken new.slots.taken s ≡ true → IsWithin s bytes)
  all None w = tt
  all (Some bytes) w = λ s is. w s (fewer s is)

-- what was written of a block goes, and its slots are free
pub let_go_rests : {D : Type 0} (used : ℕ → Bool) (test : Written → Bool) (old new : ShelfView D) (before after : Seen) → Rests used old before → ((s : ℕ) → is_taken new.slots.taken s ≡ cond (any_in (chunks_in (filter test old.written)) s) false (is_taken old.slots.taken s)) → new.written ≡ filter (λ one. not (test one)) old.written → after.told ≡ before.told → AreSettled used after → Rests used new after
let_go_rests used test old new before after rests free left told settled =
    rests_as used used old new before after rests (λ s is. fewer (any_in gone s) (is_taken old.slots.taken s) (sym (free s) ∙ is)) (subst (λ (l : List Written). HaveFreeSlots used (chunks_in l)) (sym left) (free_passed used (λ one. not (test one)) old.written rests.free)) (λ s. free s ∙ (ap (λ (b : Bool). cond (any_in gone s) false b) (whose used test old.written (is_taken old.slots.taken s) s (rests.taken s))
    ∙ (only (used s) (any_in gone s) (any_in others s) (apart_others used test old.written rests.free s) ∙ (sym (or_slots_split used others s) ∙ ap (λ (l : List Written). or_slots used (chunks_in l) s) (sym left))))) told settled
  where
    gone : List Chunk
    gone = chunks_in (filter test old.written)

    others : List Chunk
    others = chunks_in (filter (λ one. not (test one)) old.written)

    fewer : (a t : Bool) → cond a false t ≡ true → t ≡ true
    fewer true t is = absurd (false≢true is)
    fewer false t is = is

    only : (u a b : Bool) → (a ≡ true → (u ≡ false) × (b ≡ false)) → cond a false (u || (a || b)) ≡ (u || b)
    only u true b apart = sym (or_from u b (apart refl).0 (apart refl).1)
    only u false b apart = refl

-- what was written of a block is that of blocks
pub forget_rests : {D : Type 0} (used later : ℕ → Bool) (test : Written → Bool) (old new : ShelfView D) (before after : Seen) → Rests used old before → ((s : ℕ) → later s ≡ (used s || any_in (chunks_in (filter test old.written)) s)) → new.slots ≡ old.slots → new.written ≡ filter (λ one. not (test one)) old.written → after.told ≡ before.told → AreSettled later after → Rests later new after
forget_rests {D = D} used later test old new before after rests more same left told settled =
    let still : (s : ℕ) → is_taken new.slots.taken s ≡ is_taken old.slots.taken s = λ s. ap (λ (slots : Slots D). is_taken slots.taken s) same in
    rests_as used later old new before after rests (λ s is. sym (still s) ∙ is) (subst (λ (l : List Written). HaveFreeSlots later (chunks_in l)) (sym left) (free_fewer (λ s. used s || any_in gone s) later others (λ s none. more s ∙ none) (free_others used test old.written rests.free))) (λ s. still s ∙ (whose used test old.written (is_taken old.slots.taken s) s (rests.taken s) ∙ (sym (or_assoc (used s) (any_in gone s) (any_in others s))
    ∙ (ap (λ (b : Bool). b || any_in others s) (sym (more s)) ∙ (sym (or_slots_split later others s) ∙ ap (λ (l : List Written). or_slots later (chunks_in l) s) (sym left)))))) told settled
  where
    gone : List Chunk
    gone = chunks_in (filter test old.written)

    others : List Chunk
    others = chunks_in (filter (λ one. not (test one)) old.written)

-- a sync leaves them in order
pub sync_rests : {D T E : Type 0} (used : ℕ → Bool) (old new : ShelfView D) (before after : Seen) (result : Result T E) → Rests used old before → Syncs before after result → new.slots.taken ≡ old.slots.taken → new.written ≡ old.written → Rests used new after
sync_rests used old new before after result rests syncs taken written =
    rests_as used used old new before after rests (λ s is. sym (ap (λ (l : List Bool). is_taken l s) taken) ∙ is) (subst (λ (l : List Written). HaveFreeSlots used (chunks_in l)) (sym written) rests.free) (λ s. ap (λ (l : List Bool). is_taken l s) taken ∙ (rests.taken s ∙ ap (λ (l : List Written). or_slots used (chunks_in l) s) (sym written))) syncs.told
    (settled_after used before after rests.settled (told_same before.told after.told syncs.told) (moves_same before.told after.told syncs.told) (spans_weaker before.clock after.clock before.image after.image syncs.time))
  where
    told_same : (a b : Option (List ℕ)) → b ≡ a → KeepsTold used a b
    told_same None b is = tt
    told_same (Some bytes) None is = tt
    told_same (Some bytes) (Some other) is = λ slot kept within. let same = some_same is in (subst (IsWithin slot) (sym same) within, ap (slot_bytes slot) same)
      where
        some_same : Some other ≡ Some bytes → other ≡ bytes
        some_same e = cc

    moves_same : (a b : Option (List ℕ)) → b ≡ a → Moves (λ x y. Unit {0}) a b
    moves_same None b is = is
    moves_same (Some bytes) None is = absurd cc
    moves_same (Some bytes) (Some other) is = tt

    spans_weaker : (from to : ℕ) (i j : Images) → Spans Same from to i j → Spans (Keeps used) from to i j
    spans_weaker from to i j spans = record {
      elapses = spans.elapses;
      made = λ t left past by here. let found = spans.made t left past by here in (found.0, found.1, λ slot kept within. (subst (IsWithin slot) (sym found.2) within, ap (slot_bytes slot) found.2));
    }

-- once that succeeded, all that is taken is settled
pub sync_settles : {D T E : Type 0} (used : ℕ → Bool) (old new : ShelfView D) (before after : Seen) (x : T) → Rests used old before → Syncs {T = T} {E = E} before after (Ok x) → new.slots.taken ≡ old.slots.taken → AreSettled (is_taken new.slots.taken) after
sync_settles used old new before after x rests syncs taken =
    settled_stable (is_taken new.slots.taken) after (subst (λ (o : Option (List ℕ)). IfSome o (λ bytes. (s : ℕ) → is_taken new.slots.taken s ≡ true → IsWithin s bytes)) (sym syncs.told) (subst (λ (l : List Bool). IfSome before.told (λ bytes. (s : ℕ) → is_taken l s ≡ true → IsWithin s bytes)) (sym taken) rests.within)) syncs.stable

-- a disk tells after a write where it told before
pub moves_tell : (step : List ℕ → List ℕ → Type 0) (before after : Option (List ℕ)) → Moves step before after → TellsAsBefore before after
moves_tell step None after moves = (λ none. moves, λ none. refl)
moves_tell step (Some bytes) None moves = absurd moves
moves_tell step (Some bytes) (Some other) moves = (λ none. absurd cc, λ none. absurd cc)
