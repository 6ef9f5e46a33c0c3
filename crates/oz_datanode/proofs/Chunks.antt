-- What a read of slots keeps, and how far the chunks of a block were read.
use Rattle.std.proofs.Common.{◌≡◌, inl, inr, ℕ, ◌+◌, ◌-◌, ◌<◌, ◌≤◌, zero, suc, eqb, Bool, true, false, ◌||◌, List, [], ◌∷◌, ◌++◌, length, drop, get_or, Option, None, Some, is_some, IsSome, IfSome, refl, sym, ap, subst, ◌∙◌, arith, add-one, drop-cons, append_assoc, eq-eqb}
use Rattle.std.proofs.lemmas.Bool.{false≢true}
use Rattle.std.proofs.lemmas.List.{append-nil}
use Rattle.std.proofs.Math.ListN.{drop_of_length-le}
use Rattle.oz_chunk.specs.Slots.{IsWithin}
use Rattle.oz_chunk.specs.Taken.{is_taken}
use Rattle.oz_entries.specs.declared.row.BlockRow.{BlockRow}
use Rattle.oz_entries.specs.declared.row.Chunk.{Chunk}
use Rattle.oz_entries.specs.Held.{any_in, belongs_to, row_has, IsSound}
use Rattle.oz_entries.specs.Node.{Node, HaveFreeSlots, or_slot, or_slots, is_used}
use Rattle.oz_fields.specs.declared.block.Block.{Block}
use Rattle.oz_block.specs.declared.shelf.written.Written.{Written}
use Rattle.oz_block.specs.shelf.Shelf.{ShelfView, Rests, HaveSame}
use Rattle.oz_block.specs.shelf.Written.{chunks_in}
use Rattle.oz_world.specs.Disk.{Seen, Stands}
use Rattle.sha2.specs.Sha256.{sha256}
use Rattle.oz_datanode.specs.Pairs.{Content, HaveAll, PairHolds, part_of, parts_of, HaveDigests}
use Rattle.oz_datanode.specs.Reading.{OnlyReads, IsFirstBad}
use Rattle.oz_datanode.specs.Steps.{is_in_use}
use Rattle.oz_datanode.proofs.Ranges.{in_use}

pub reads_none : {D : Type 0} (shelf : ShelfView D) (disk : Seen) → OnlyReads shelf shelf disk disk
reads_none shelf disk = record {
  told = refl;
  time = record { moment = refl; images = λ t bytes. (λ h. h, λ h. h) };
  faults = omega arith;
  taken = refl;
  written = refl;
}

pub reads_then : {D : Type 0} (first second third : ShelfView D) (a b c : Seen) → OnlyReads first second a b → OnlyReads second third b c → OnlyReads first third a c
reads_then first second third a b c one two = record {
  told = two.told ∙ one.told;
  time = record {
    moment = two.time.moment ∙ one.time.moment;
    images = λ t bytes. (λ h. (one.time.images t bytes).0 ((two.time.images t bytes).0 h), λ h. (two.time.images t bytes).1 ((one.time.images t bytes).1 h));
  };
  faults = omega (arith, one.faults, two.faults);
  taken = two.taken ∙ one.taken;
  written = two.written ∙ one.written;
}

-- an image of the disk that was read was one before
image_before : (before after : Seen) → Stands before.clock after.clock before.image after.image → (left : List ℕ) → after.image after.clock left → before.image before.clock left
image_before before after time left here = subst (λ (n : ℕ). before.image n left) time.moment ((time.images after.clock left).0 here)

pub rests_read : {D : Type 0} (used : ℕ → Bool) (old new : ShelfView D) (before after : Seen) → Rests used old before → OnlyReads old new before after → Rests used new after
rests_read used old new before after rests reads = record {
  free = subst (λ (l : List Written). HaveFreeSlots used (chunks_in l)) (sym reads.written) rests.free;
  taken = λ slot. ap (λ (l : List Bool). is_taken l slot) reads.taken ∙ (rests.taken slot ∙ ap (λ (l : List Written). or_slots used (chunks_in l) slot) (sym reads.written));
  within = subst (λ (o : Option (List ℕ)). IfSome o (λ bytes. (slot : ℕ) → is_taken new.slots.taken slot ≡ true → IsWithin slot bytes)) (sym reads.told)
      (subst (λ (l : List Bool). IfSome before.told (λ bytes. (slot : ℕ) → is_taken l slot ≡ true → IsWithin slot bytes)) (sym reads.taken) rests.within);
  settled = subst (λ (o : Option (List ℕ)). IfSome o (λ bytes. (left : List ℕ) → after.image after.clock left → HaveSame used bytes left)) (sym reads.told) (still before.told rests.settled);
} where
  still : (told : Option (List ℕ)) → IfSome told (λ bytes. (left : List ℕ) → before.image before.clock left → HaveSame used bytes left) → IfSome told (λ bytes. (left : List ℕ) → after.image after.clock left → HaveSame used bytes left)
  still None all = tt
  still (Some bytes) all = λ left here. all left (image_before before after reads.time left here)

pub pairs_read : {D : Type 0} (contents : Block → Content) (node : Node) (old new : ShelfView D) (journal before after : Seen) → OnlyReads old new before after → PairHolds contents node journal before → PairHolds contents node journal after
pairs_read contents node old new journal before after reads holds = record {
  read = λ tells. subst (λ (o : Option (List ℕ)). IfSome o (HaveAll contents node)) (sym reads.told) (holds.read tells);
  left = λ tells slots_tell bytes other there beside kept stands.
      holds.left tells (subst (λ (o : Option (List ℕ)). IsSome o) reads.told slots_tell) bytes other there (image_before before after reads.time other beside) kept stands;
}

-- slots in use are taken
or_slots_used : (used : ℕ → Bool) (chunks : List Chunk) (slot : ℕ) → used slot ≡ true → or_slots used chunks slot ≡ true
or_slots_used used [] slot is = is
or_slots_used used (chunk ∷ chunks) slot is = or_slots_used (or_slot used chunk.slot) chunks slot (ap (λ (b : Bool). b || eqb chunk.slot slot) is)

some_user : (user : Option Block) (block : Block) → belongs_to user block ≡ true → is_some user ≡ true
some_user None block is = absurd (false≢true is)
some_user (Some other) block is = refl

-- the slots of a row lie within the disk
pub row_within : {D : Type 0} (node : Node) (shelf : ShelfView D) (disk : Seen) (block : Block) (row : BlockRow) → Rests (is_in_use node) shelf disk → IsSound node → ((slot : ℕ) → is_used node slot ≡ true → slot < 16384) → Some row ≡ node.rows block
    → IfSome disk.told (λ slots. (slot : ℕ) → any_in row.chunks slot ≡ true → IsWithin slot slots)
row_within node shelf disk block row rests sound small is = by disk.told rests.within
  where
    taken : (slot : ℕ) → any_in row.chunks slot ≡ true → is_taken shelf.slots.taken slot ≡ true
    taken slot has =
        let owned : belongs_to (node.users slot) block ≡ true = sound slot block ∙ (ap (λ (o : Option BlockRow). row_has o slot) (sym is) ∙ has) in
        let used : is_used node slot ≡ true = some_user (node.users slot) block owned in
        rests.taken slot ∙ or_slots_used (is_in_use node) (chunks_in shelf.written) slot (in_use node slot used (small slot used))

    by : (told : Option (List ℕ)) → IfSome told (λ bytes. (slot : ℕ) → is_taken shelf.slots.taken slot ≡ true → IsWithin slot bytes) → IfSome told (λ slots. (slot : ℕ) → any_in row.chunks slot ≡ true → IsWithin slot slots)
    by None within = tt
    by (Some bytes) within = λ slot has. within slot (taken slot has)

or_true : (a b : Bool) → b ≡ true → (a || b) ≡ true
or_true true b is = refl
or_true false b is = is

any_at : (chunks : List Chunk) (i : ℕ) (d : Chunk) → i < length chunks → any_in chunks (get_or chunks i d).slot ≡ true
any_at chunks i d less = by chunks i less
  where
    by : (chunks : List Chunk) (i : ℕ) → i < length chunks → any_in chunks (get_or chunks i d).slot ≡ true
    by [] i less = absurd (omega (arith, less))
    by (chunk ∷ chunks) zero less = ap (λ (b : Bool). b || any_in chunks chunk.slot) (eq-eqb chunk.slot chunk.slot refl)
    by (chunk ∷ chunks) (suc i) less = or_true (eqb chunk.slot (get_or chunks i d).slot) (any_in chunks (get_or chunks i d).slot) (by chunks i (omega (arith, less)))

-- the slot of one of the chunks lies within the disk
pub chunk_within : (told now : Option (List ℕ)) (chunks : List Chunk) (i : ℕ) (d : Chunk) → i < length chunks → now ≡ told → IfSome told (λ slots. (slot : ℕ) → any_in chunks slot ≡ true → IsWithin slot slots) → IfSome now (IsWithin (get_or chunks i d).slot)
chunk_within told now chunks i d less same all = subst (λ (o : Option (List ℕ)). IfSome o (IsWithin (get_or chunks i d).slot)) (sym same) (by told all)
  where
    by : (told : Option (List ℕ)) → IfSome told (λ slots. (slot : ℕ) → any_in chunks slot ≡ true → IsWithin slot slots) → IfSome told (IsWithin (get_or chunks i d).slot)
    by None all = tt
    by (Some slots) all = all (get_or chunks i d).slot (any_at chunks i d less)

-- the chunks before the rest were read
pub record ReadSoFar (told : Option (List ℕ)) (size left : ℕ) (chunks rest : List Chunk) (bytes : List ℕ) : Type 0 where
  pub joined : (slots : List ℕ) → told ≡ Some slots → bytes ++ parts_of left rest slots ≡ parts_of size chunks slots
  pub digests : (slots : List ℕ) → told ≡ Some slots → HaveDigests left rest slots → HaveDigests size chunks slots
  pub bad : (slots : List ℕ) → told ≡ Some slots → (kept found : List ℕ) → IsFirstBad left rest slots kept found → IsFirstBad size chunks slots kept found

pub read_none : (told : Option (List ℕ)) (size : ℕ) (chunks : List Chunk) (bytes : List ℕ) → bytes ≡ [] → ReadSoFar told size size chunks (drop 0 chunks) bytes
read_none told size chunks bytes none = record {
  joined = λ slots is. ap (λ (l : List ℕ). l ++ parts_of size chunks slots) none;
  digests = λ slots is have. have;
  bad = λ slots is kept found first. first;
}

module _ (told : Option (List ℕ)) (size left : ℕ) (chunks : List Chunk) (i : ℕ) (d : Chunk) (bytes : List ℕ) (less : i < length chunks) where
  abbrev chunk : Chunk
  chunk = get_or chunks i d

  rest_is : drop i chunks ≡ chunk ∷ drop (i + 1) chunks
  rest_is = rw (add-one) (drop-cons chunks i d less)

  parts_step : (slots : List ℕ) → parts_of left (chunk ∷ drop (i + 1) chunks) slots ≡ part_of left chunk slots ++ parts_of (left - 16384) (drop (i + 1) chunks) slots
  unfolding parts_of
  parts_step slots = refl

  digests_step : (slots : List ℕ) → chunk.digest ≡ sha256 (part_of left chunk slots) → HaveDigests (left - 16384) (drop (i + 1) chunks) slots → HaveDigests left (chunk ∷ drop (i + 1) chunks) slots
  unfolding HaveDigests
  digests_step slots one rest = (one, rest)

  bad_here : (slots kept found : List ℕ) → kept ≡ chunk.digest → found ≡ sha256 (part_of left chunk slots) → (found ≡ kept → ⊥) → IsFirstBad left (chunk ∷ drop (i + 1) chunks) slots kept found
  unfolding IsFirstBad
  bad_here slots kept found one two apart = inl (one, two, apart)

  bad_later : (slots kept found : List ℕ) → chunk.digest ≡ sha256 (part_of left chunk slots) → IsFirstBad (left - 16384) (drop (i + 1) chunks) slots kept found → IsFirstBad left (chunk ∷ drop (i + 1) chunks) slots kept found
  unfolding IsFirstBad
  bad_later slots kept found one later = inr (one, later)

  pub read_more : (now : Option (List ℕ)) (after : ℕ) (part all : List ℕ) → ReadSoFar told size left chunks (drop i chunks) bytes → now ≡ told → ((slots : List ℕ) → now ≡ Some slots → part ≡ part_of left chunk slots) → chunk.digest ≡ sha256 part → after ≡ left - 16384 → all ≡ bytes ++ part
      → ReadSoFar told size after chunks (drop (i + 1) chunks) all
  read_more now after part all so_far same is digest fewer joined = subst (λ (n : ℕ). ReadSoFar told size n chunks (drop (i + 1) chunks) all) (sym fewer) (record {
    joined = λ slots tells.
        ap (λ (l : List ℕ). l ++ parts_of (left - 16384) (drop (i + 1) chunks) slots) (joined ∙ ap (λ (l : List ℕ). bytes ++ l) (is slots (same ∙ tells)))
        ∙ (append_assoc bytes (part_of left chunk slots) (parts_of (left - 16384) (drop (i + 1) chunks) slots)
        ∙ (ap (λ (l : List ℕ). bytes ++ l) (sym (parts_step slots)) ∙ (ap (λ (l : List Chunk). bytes ++ parts_of left l slots) (sym rest_is) ∙ so_far.joined slots tells)));
    digests = λ slots tells rest.
        so_far.digests slots tells (subst (λ (l : List Chunk). HaveDigests left l slots) (sym rest_is) (digests_step slots (digest ∙ ap sha256 (is slots (same ∙ tells))) rest));
    bad = λ slots tells kept found later.
        so_far.bad slots tells kept found (subst (λ (l : List Chunk). IsFirstBad left l slots kept found) (sym rest_is) (bad_later slots kept found (digest ∙ ap sha256 (is slots (same ∙ tells))) later));
  })

  pub read_bad : (now : Option (List ℕ)) (kept found slots : List ℕ) → ReadSoFar told size left chunks (drop i chunks) bytes → now ≡ told → ((slots : List ℕ) → now ≡ Some slots → (kept ≡ chunk.digest) × (found ≡ sha256 (part_of left chunk slots)) × (found ≡ kept → ⊥)) → told ≡ Some slots
      → IsFirstBad size chunks slots kept found
  read_bad now kept found slots so_far same why tells =
      let here = why slots (same ∙ tells) in
      so_far.bad slots tells kept found (subst (λ (l : List Chunk). IsFirstBad left l slots kept found) (sym rest_is) (bad_here slots kept found here.0 here.1 here.2))

nothing_left : (chunks : List Chunk) (i : ℕ) → length chunks ≤ i → drop i chunks ≡ []
nothing_left chunks i past = drop_of_length-le chunks past

pub read_all : (told : Option (List ℕ)) (size left : ℕ) (chunks : List Chunk) (i : ℕ) (bytes : List ℕ) → ReadSoFar told size left chunks (drop i chunks) bytes → length chunks ≤ i → (slots : List ℕ) → told ≡ Some slots → bytes ≡ parts_of size chunks slots
unfolding parts_of
read_all told size left chunks i bytes so_far past slots tells =
    sym (append-nil bytes) ∙ (ap (λ (l : List Chunk). bytes ++ parts_of left l slots) (sym (nothing_left chunks i past)) ∙ so_far.joined slots tells)

pub read_digests : (told : Option (List ℕ)) (size left : ℕ) (chunks : List Chunk) (i : ℕ) (bytes : List ℕ) → ReadSoFar told size left chunks (drop i chunks) bytes → length chunks ≤ i → (slots : List ℕ) → told ≡ Some slots → HaveDigests size chunks slots
unfolding HaveDigests
read_digests told size left chunks i bytes so_far past slots tells =
    so_far.digests slots tells (subst (λ (l : List Chunk). HaveDigests left l slots) (sym (nothing_left chunks i past)) tt)

-- what is said of each told value is said of it if there is one
pub if_some : {X : Type 0} (P : X → Type 0) (told : Option X) → ((x : X) → told ≡ Some x → P x) → IfSome told P
if_some P None all = tt
if_some P (Some x) all = all x refl
