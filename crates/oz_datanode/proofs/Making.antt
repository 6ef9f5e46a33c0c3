-- Which bytes the chunks that were written make.
use Rattle.std.proofs.Common.{◌≡◌, inl, inr, ℕ, ◌+◌, ◌-◌, ◌*◌, ◌≤◌, eqb, eqb-true, eq-eqb, ◌&&◌, min, Bool, true, false, List, [], ◌∷◌, ◌++◌, length, filter, take, slice_range, Option, None, Some, IfSome, refl, sym, ap, ◌∙◌, subst, arith, append_assoc, length-append}
use Rattle.std.proofs.lemmas.Bool.{false≢true, or_cases, or_left}
use Rattle.std.proofs.lemmas.List.{append-nil, length-map, map-append}
use Rattle.std.proofs.lemmas.List.Folds.{list_any-append}
use Rattle.sha2.specs.Sha256.{sha256}
use Rattle.oz_chunk.specs.Slots.{slot_bytes, padded, IsWithin}
use Rattle.oz_chunk.specs.Taken.{is_taken}
use Rattle.oz_chunk.specs.laws.Keeping.{begins}
use Rattle.oz_entries.specs.Held.{any_in}
use Rattle.oz_entries.specs.Node.{has_slot, is_same_block}
use Rattle.oz_entries.specs.declared.row.BlockRow.{BlockRow}
use Rattle.oz_entries.specs.declared.row.Chunk.{Chunk}
use Rattle.oz_fields.specs.declared.block.Block.{Block}
use Rattle.oz_block.specs.declared.shelf.written.Written.{Written}
use Rattle.oz_block.specs.shelf.Shelf.{ShelfView, IsWritten, KeepsTold}
use Rattle.oz_block.specs.shelf.Written.{chunks_in, is_at, with_written, makes, makes_from, row_of, written_of}
use Rattle.oz_block.specs.shelf.laws.Written.{next_written, next_count, next_makes, others_written}
use Rattle.oz_world.specs.Disk.{TellsAsBefore}
use Rattle.oz_datanode.specs.Pairs.{Content, Has, HaveDigests, part_of, parts_of}
use Rattle.oz_datanode.specs.Writing.{HasPart, MakeBytes, intact}
use Rattle.oz_datanode.proofs.Holding.{has_alike, part_begins}

-- what was written to a slot is the chunk there
pub chunk_stands : (bytes : List ℕ) (chunk : Chunk) (disk : List ℕ) → length bytes ≤ 16384 → slot_bytes chunk.slot disk ≡ padded bytes → part_of (length bytes) chunk disk ≡ bytes
chunk_stands bytes chunk disk small stands =
    let all : min (length bytes) 16384 ≡ length bytes = omega (arith, small) in
    part_begins (length bytes) chunk disk ∙ (ap (λ (n : ℕ). take n (slot_bytes chunk.slot disk)) all ∙ (ap (take (length bytes)) stands ∙ begins bytes))

-- chunks that fill their places, and one behind them
pub parts_push : (chunks : List Chunk) (size count : ℕ) (chunk : Chunk) (disk : List ℕ) → size ≡ length chunks * 16384 → parts_of (size + count) (chunks ++ chunk ∷ []) disk ≡ parts_of size chunks disk ++ part_of count chunk disk
unfolding parts_of
parts_push [] size count chunk disk whole =
    let none : size + count ≡ count = omega (arith, whole) in
    append-nil (part_of (size + count) chunk disk) ∙ ap (λ (n : ℕ). part_of n chunk disk) none
parts_push (first ∷ chunks) size count chunk disk whole =
    let less : size - 16384 ≡ length chunks * 16384 = omega (arith, whole) in
    let rest : size + count - 16384 ≡ size - 16384 + count = omega (arith, whole) in
    let full : min (size + count) 16384 ≡ min size 16384 = omega (arith, whole) in
    ap (λ (n : ℕ). slice_range disk (first.slot * 16384) (first.slot * 16384 + n) ++ parts_of (size + count - 16384) (chunks ++ chunk ∷ []) disk) full
    ∙ (ap (λ (n : ℕ). part_of size first disk ++ parts_of n (chunks ++ chunk ∷ []) disk) rest
    ∙ (ap (λ (l : List ℕ). part_of size first disk ++ l) (parts_push chunks (size - 16384) count chunk disk less)
    ∙ sym (append_assoc (part_of size first disk) (parts_of (size - 16384) chunks disk) (part_of count chunk disk))))

pub digests_push : (chunks : List Chunk) (size count : ℕ) (chunk : Chunk) (disk : List ℕ) → size ≡ length chunks * 16384 → HaveDigests size chunks disk → chunk.digest ≡ sha256 (part_of count chunk disk) → HaveDigests (size + count) (chunks ++ chunk ∷ []) disk
unfolding HaveDigests
digests_push [] size count chunk disk whole have this =
    let none : count ≡ size + count = omega (arith, whole) in
    (this ∙ ap (λ (n : ℕ). sha256 (part_of n chunk disk)) none, tt)
digests_push (first ∷ chunks) size count chunk disk whole have this =
    let less : size - 16384 ≡ length chunks * 16384 = omega (arith, whole) in
    let rest : size - 16384 + count ≡ size + count - 16384 = omega (arith, whole) in
    let full : min size 16384 ≡ min (size + count) 16384 = omega (arith, whole) in
    (have.0 ∙ ap (λ (n : ℕ). sha256 (slice_range disk (first.slot * 16384) (first.slot * 16384 + n))) full, subst (λ (n : ℕ). HaveDigests n (chunks ++ chunk ∷ []) disk) rest (digests_push chunks (size - 16384) count chunk disk less have.1 this))

no_digests : (disk : List ℕ) → HaveDigests 0 [] disk
unfolding HaveDigests
no_digests disk = tt

no_parts : (disk : List ℕ) → parts_of 0 [] disk ≡ []
unfolding parts_of
no_parts disk = refl

-- the chunks of a block are on another disk too where those slots are kept of which they have some
kept_has : (content : Content) (row : BlockRow) (taken : ℕ → Bool) (before after : Option (List ℕ)) → ((slot : ℕ) → has_slot row slot ≡ true → taken slot ≡ true) → KeepsTold taken before after → TellsAsBefore before after → IfSome before (Has content row) → IfSome after (Has content row)
kept_has content row taken before None are keeps telling has = tt
kept_has content row taken None (Some disk) are keeps telling has = absurd (never (telling.0 refl))
  where
    never : Some disk ≡ None → ⊥
    never e = cc
kept_has content row taken (Some then) (Some disk) are keeps telling has = has_alike content row then disk has (λ slot in_row. keeps slot (are slot in_row) (has.within slot in_row))

module _ {D : Type 0} (told : D → Option (List ℕ)) where
  -- nothing was written
  pub none_made : (block : Block) (shelf : ShelfView D) → written_of block shelf.written ≡ [] → MakeBytes told block [] shelf
  unfolding makes_from HaveDigests parts_of
  none_made block shelf none = record { made = ap (makes_from 0 0) none; has = by (told shelf.slots.disk) }
    where
      empty : (disk : List ℕ) → Has (intact []) (record { length = 0; chunks = [] }) disk
      empty disk = record { within = λ slot has. absurd (false≢true has); bytes = no_parts disk; digests = λ are. no_digests disk }

      by : (o : Option (List ℕ)) → IfSome o (Has (intact []) (row_of shelf.written block 0))
      by None = tt
      by (Some disk) = subst (λ (l : List Written). Has (intact []) (record { length = 0; chunks = chunks_in l }) disk) (sym none) (empty disk)

  module _ (block : Block) (place : ℕ) (bytes : List ℕ) (old new : ShelfView D) (written : IsWritten block place bytes old new (told new.slots.disk)) (keeps : KeepsTold (is_taken old.slots.taken) (told old.slots.disk) (told new.slots.disk)) (telling : TellsAsBefore (told old.slots.disk) (told new.slots.disk)) (taken : (own : Block) (slot : ℕ) → any_in (chunks_in (written_of own old.written)) slot ≡ true → is_taken old.slots.taken slot ≡ true) where
    abbrev chunk : Chunk
    chunk = record { slot = written.slot; digest = sha256 bytes }

    abbrev one : Written
    one = record { block = block; place = place; size = length bytes; chunk = record { slot = written.slot; digest = sha256 bytes } }

    -- what was written of another block is as it was
    pub others_made : (other : Block) (made : List ℕ) → is_same_block block other ≡ false → MakeBytes told other made old → MakeBytes told other made new
    others_made other made apart was =
        let same : written_of other new.written ≡ written_of other old.written = ap (written_of other) written.listed ∙ others_written old.written one other apart in record {
          made = ap (makes_from 0 (length made)) same ∙ was.made;
          has = subst (λ (l : List Written). IfSome (told new.slots.disk) (Has (intact made) (record { length = length made; chunks = chunks_in l }))) (sym same) (kept_has (intact made) (row_of old.written other (length made)) (is_taken old.slots.taken) (told old.slots.disk) (told new.slots.disk) (taken other) keeps telling was.has);
        }

    -- the next chunk of its block
    pub next_made : (front : List ℕ) → 1 ≤ length bytes → length bytes ≤ 16384 → MakeBytes told block front old → length front ≡ place * 16384 → MakeBytes told block (front ++ bytes) new
    next_made front some small was whole = record {
      made = subst (λ (n : ℕ). makes new.written block n ≡ true) (sym (length-append front bytes)) (ap (λ (l : List Written). makes l block (length front + length bytes)) written.listed ∙ next_makes old.written one (length front) was.made whole (omega (arith, some)) small);
      has = by (told new.slots.disk) (kept_has (intact front) (row_of old.written block (length front)) (is_taken old.slots.taken) (told old.slots.disk) (told new.slots.disk) (taken block) keeps telling was.has) written.within written.stands;
    } where
      before : List Chunk
      before = chunks_in (written_of block old.written)

      chunks : chunks_in (written_of block new.written) ≡ before ++ chunk ∷ []
      chunks = ap (λ (l : List Written). chunks_in (written_of block l)) written.listed ∙ (ap chunks_in (next_written old.written one (length front) was.made whole) ∙ map-append (λ (w : Written). w.chunk) (written_of block old.written) (one ∷ []))

      full : length front ≡ length before * 16384
      full = omega (arith, whole, length-map (written_of block old.written) (λ (w : Written). w.chunk), next_count old.written one (length front) was.made whole)

      by : (after : Option (List ℕ)) → IfSome after (Has (intact front) (row_of old.written block (length front))) → IfSome after (IsWithin written.slot) → IfSome after (λ disk. slot_bytes written.slot disk ≡ padded bytes)
          → IfSome after (Has (intact (front ++ bytes)) (row_of new.written block (length (front ++ bytes))))
      by None has within stands = tt
      by (Some disk) has within stands =
          let this = chunk_stands bytes chunk disk small stands in
          subst (λ (n : ℕ). Has (intact (front ++ bytes)) (row_of new.written block n) disk) (sym (length-append front bytes)) (subst (λ (l : List Chunk). Has (intact (front ++ bytes)) (record { length = length front + length bytes; chunks = l }) disk) (sym chunks) (record {
            within = λ slot in_row. elim (or_cases (any_in before slot) (any_in (chunk ∷ []) slot) (sym (list_any-append (λ (c : Chunk). eqb c.slot slot) before (chunk ∷ [])) ∙ in_row)) [
              | inl is ↦ has.within slot is
              | inr is ↦ elim (or_cases (eqb written.slot slot) false is) [ inl same ↦ subst (λ (n : ℕ). IsWithin n disk) (eqb-true written.slot slot same) within | inr never ↦ absurd (false≢true never) ]
            ];
            bytes = parts_push before (length front) (length bytes) chunk disk full ∙ (ap (λ (l : List ℕ). l ++ part_of (length bytes) chunk disk) has.bytes ∙ ap (λ (l : List ℕ). front ++ l) this);
            digests = λ are. digests_push before (length front) (length bytes) chunk disk full (has.digests refl) (ap sha256 (sym this));
          }))

  module _ (block : Block) (place : ℕ) (bytes : List ℕ) (old new : ShelfView D) (written : IsWritten block place bytes old new (told new.slots.disk)) where
    -- it was written to its place
    pub own_part : length bytes ≤ 16384 → ((written : List Written) (one : Written) → filter (is_at one.block one.place) (with_written written one) ≡ one ∷ []) → HasPart block place bytes new.written (told new.slots.disk)
    own_part small own = record {
      chunk = record { slot = written.slot; digest = sha256 bytes };
      listed = ap (filter (is_at block place)) written.listed ∙ own old.written (record { block = block; place = place; size = length bytes; chunk = record { slot = written.slot; digest = sha256 bytes } });
      digest = refl;
      has = by (told new.slots.disk) written.within written.stands;
    } where
      by : (o : Option (List ℕ)) → IfSome o (IsWithin written.slot) → IfSome o (λ disk. slot_bytes written.slot disk ≡ padded bytes) → IfSome o (λ disk. IsWithin written.slot disk × (part_of (length bytes) (record { slot = written.slot; digest = sha256 bytes }) disk ≡ bytes))
      by None within stands = tt
      by (Some disk) within stands = (within, chunk_stands bytes (record { slot = written.slot; digest = sha256 bytes }) disk small stands)

    -- what was written to another place stands there still
    pub other_part : KeepsTold (is_taken old.slots.taken) (told old.slots.disk) (told new.slots.disk) → TellsAsBefore (told old.slots.disk) (told new.slots.disk) → ((test : Written → Bool) (slot : ℕ) → any_in (chunks_in (filter test old.written)) slot ≡ true → is_taken old.slots.taken slot ≡ true)
        → (other : Block) (there : ℕ) (part : List ℕ) → (is_same_block block other && eqb place there) ≡ false → ((written : List Written) (one : Written) (block : Block) (place : ℕ) → is_at block place one ≡ false → filter (is_at block place) (with_written written one) ≡ filter (is_at block place) written)
        → HasPart other there part old.written (told old.slots.disk) → HasPart other there part new.written (told new.slots.disk)
    other_part keeps telling taken other there part apart others was = record {
      chunk = was.chunk;
      listed = ap (filter (is_at other there)) written.listed ∙ (others old.written (record { block = block; place = place; size = length bytes; chunk = record { slot = written.slot; digest = sha256 bytes } }) other there apart ∙ was.listed);
      digest = was.digest;
      has = by (told old.slots.disk) (told new.slots.disk) was.has keeps telling;
    } where
      own : is_taken old.slots.taken was.chunk.slot ≡ true
      own = taken (is_at other there) was.chunk.slot (ap (λ (l : List Written). any_in (chunks_in l) was.chunk.slot) was.listed ∙ or_left (eqb was.chunk.slot was.chunk.slot) false (eq-eqb was.chunk.slot was.chunk.slot refl))

      by : (before after : Option (List ℕ)) → IfSome before (λ disk. IsWithin was.chunk.slot disk × (part_of (length part) was.chunk disk ≡ part)) → KeepsTold (is_taken old.slots.taken) before after → TellsAsBefore before after → IfSome after (λ disk. IsWithin was.chunk.slot disk × (part_of (length part) was.chunk disk ≡ part))
      by before None has keeps telling = tt
      by None (Some disk) has keeps telling = absurd (never (telling.0 refl))
        where
          never : Some disk ≡ None → ⊥
          never e = cc
      by (Some then) (Some disk) has keeps telling =
          let now = keeps was.chunk.slot own has.0 in
          (now.0, part_begins (length part) was.chunk disk ∙ (ap (take (min (length part) 16384)) now.1 ∙ (sym (part_begins (length part) was.chunk then) ∙ has.1)))
