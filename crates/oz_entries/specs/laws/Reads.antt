-- Entries read as they are spelled.
use Rattle.std.proofs.Common.{
  ◌≡◌,
  ℕ,
  zero,
  suc,
  ◌<◌,
  ◌≤◌,
  ◌^◌,
  eqb,
  leb,
  ltb,
  Bool,
  true,
  false,
  cond,
  not,
  ◌&&◌,
  List,
  [],
  ◌∷◌,
  ◌++◌,
  length,
  take,
  drop,
  Option,
  None,
  Some,
  Result,
  Ok,
  Err,
  refl,
  sym,
  ap,
  subst,
  ◌∙◌,
  arith,
  append_assoc,
  take-append-drop,
  length-append,
  length-take,
}
use Rattle.std.proofs.lemmas.Bool.{eqb-true, eq-eqb, and_parts, and_from, leb-true, le-leb, ltb-true, lt-ltb, le-ltb, ltb-false, false≢true}
use Rattle.std.proofs.lemmas.Option.{some_pair_parts}
use Rattle.std.proofs.lemmas.List.{append-nil, take_at, drop_at}
use Rattle.std.specs.List.{flat_map, AllByRecursion}
use Rattle.oz_container.specs.declared.state.State.{State}
use Rattle.oz_container.specs.declared.state.State.TheVariants as states
use Rattle.oz_dellog.specs.declared.txn.Txn.{Txn}
use Rattle.oz_fields.specs.declared.block.Block.{Block}
use Rattle.oz_fields.specs.Field.{AreBytes, IsField}
use Rattle.oz_fields.specs.Number.{u8_bytes, u16_bytes, u32_bytes, u64_bytes, u8_at, u16_at, u32_at, u64_at}
use Rattle.oz_fields.specs.laws.Bytes.{AreBytes-behind}
use Rattle.oz_fields.specs.laws.Numbers.{u8_field, u16_field, u32_field, u64_field}
use Rattle.oz_rows.specs.Rows.{IsBlockNumber, block_bytes}
use Rattle.oz_rows.specs.Reading.{goes_on, done, field, is_block_number, owner_at}
use Rattle.oz_rows.specs.laws.Grammar.{
  IsRead,
  Finds,
  Backs,
  fits_as,
  field_reads,
  finds_done,
  finds_then,
  finds_last,
  finds_either,
  finds_none,
  backs_done,
  backs_then,
  backs_last,
  backs_as,
  is_read,
}
use Rattle.oz_rows.specs.laws.FieldReads.{owner_reads, number_reads, length_reads}
use Rattle.oz_entries.specs.declared.row.Chunk.{Chunk}
use Rattle.oz_entries.specs.declared.row.BlockRow.{BlockRow}
use Rattle.oz_entries.specs.declared.entry.Entry.{Entry}
use Rattle.oz_entries.specs.declared.entry.Entry.TheVariants.{Put, SetState, Apply, Drop}
use Rattle.oz_entries.specs.Entries.{entry_bytes, row_bytes, chunk_bytes, chunks_bytes, locals_bytes, state_number}
use Rattle.oz_entries.specs.Node.{Node, is_deleted, is_held, is_used, uses_a_slot, or_slot, or_slots, HaveFreeSlots, RowFits, MayFollow, chunk_count}
use Rattle.oz_entries.specs.Reading.{
  digest_at,
  slot_at,
  chunk_at,
  each_at,
  next_chunk_at,
  count_at,
  row_at,
  container_at,
  local_at,
  new_block_at,
  put_at,
  state_of,
  state_at,
  set_state_at,
  locals_at,
  numbered_at,
  checked,
  is_due,
  due_at,
  apply_at,
  emptied_at,
  dropped_at,
  entry_of_tag_at,
  entry_at,
}

opposite : (b : Bool) → not b ≡ true → b ≡ false
opposite true e = absurd (false≢true e)
opposite false e = refl

negated : (b : Bool) → b ≡ false → not b ≡ true
negated true e = absurd (false≢true (sym e))
negated false e = refl

flat_map-cons : {A : Type 0} (spelling : A → List ℕ) (x : A) (xs : List A) → flat_map spelling (x ∷ xs) ≡ spelling x ++ flat_map spelling xs
flat_map-cons spelling x xs = refl

went_on : {A B : Type 0} (read : Result (A × List ℕ) ℕ) (next : A → List ℕ → Result (B × List ℕ) ℕ) (found : B × List ℕ) → goes_on read next ≡ Ok found
    → (x : A × List ℕ) × (read ≡ Ok x) × (next x.0 x.1 ≡ Ok found)
went_on (Ok x) next found e = (x, refl, e)
went_on (Err left) next found e = absurd cc

-- each item fits behind those before it
abbrev pub FitsEach : {A : Type 0} → (List A → A → Type 0) → List A → List A → Type 0
FitsEach Fits front [] = Unit {0}
FitsEach Fits front (x ∷ xs) = Fits front x × FitsEach Fits (front ++ x ∷ []) xs

-- what was read behind a front
record Found {A : Type 0} (Fits : List A → A → Type 0) (spelling : A → List ℕ) (front : List A) (count : ℕ) (bytes : List ℕ) (all : List A)
    (rest : List ℕ) : Type 0 where
  pub items : List A
  pub parts : all ≡ front ++ items
  pub many : length items ≡ count
  pub fit : FitsEach Fits front items
  pub spelled : bytes ≡ flat_map spelling items ++ rest

each_found : {A : Type 0} (Fits : List A → A → Type 0) (spelling : A → List ℕ) (item : List A → List ℕ → Result (A × List ℕ) ℕ)
    → ((front : List A) → IsRead (Fits front) spelling (item front))
    → (count : ℕ) (front : List A) (bytes : List ℕ) (all : List A) (rest : List ℕ) → AreBytes bytes → each_at item front count bytes ≡ Ok (all, rest)
    → Found Fits spelling front count bytes all rest
unfolding each_at
each_found {A} Fits spelling item reads zero front bytes all rest fit e =
    let same : (front, bytes) ≡ (all, rest) = ok_same (front, bytes) (all, rest) e in
    record {
      items = [];
      parts = sym (ap (λ (p : List A × List ℕ). p.0) same) ∙ sym (append-nil front);
      many = refl;
      fit = tt;
      spelled = ap (λ (p : List A × List ℕ). p.1) same;
    }
  where
    ok_same : (p q : List A × List ℕ) → done p.0 p.1 ≡ Ok q → p ≡ q
    ok_same p q e = cc
each_found {A} Fits spelling item reads (suc count) front bytes all rest fit e =
    let first = went_on (item front bytes) (λ x. each_at item (front ++ x ∷ []) count) (all, rest) e in
    let one = (reads front).one_spelling bytes first.0.0 first.0.1 fit first.1 in
    let more = each_found Fits spelling item reads count (front ++ first.0.0 ∷ []) first.0.1 all rest
    (AreBytes-behind bytes (spelling first.0.0) first.0.1 fit one.1) first.2 in
    record {
      items = first.0.0 ∷ more.items;
      parts = more.parts ∙ append_assoc front (first.0.0 ∷ []) more.items;
      many = ap suc more.many;
      fit = (one.0, more.fit);
      spelled = one.1 ∙ (ap (λ (l : List ℕ). spelling first.0.0 ++ l) more.spelled
          ∙ sym (append_assoc (spelling first.0.0) (flat_map spelling more.items) rest));
    }

each_back : {A : Type 0} (Fits : List A → A → Type 0) (spelling : A → List ℕ) (item : List A → List ℕ → Result (A × List ℕ) ℕ)
    → ((front : List A) → IsRead (Fits front) spelling (item front))
    → (items : List A) (front : List A) (rest : List ℕ) → FitsEach Fits front items
    → each_at item front (length items) (flat_map spelling items ++ rest) ≡ Ok (front ++ items, rest)
unfolding each_at
each_back {A} Fits spelling item reads [] front rest fits = ap (λ (l : List A). Ok (l, rest)) (sym (append-nil front))
each_back {A} Fits spelling item reads (x ∷ items) front rest fits =
    ap (λ (l : List ℕ). goes_on (item front l) (λ y. each_at item (front ++ y ∷ []) (length items))) (append_assoc (spelling x) (flat_map spelling items) rest)
    ∙ (ap (λ (r : Result (A × List ℕ) ℕ). goes_on r (λ y. each_at item (front ++ y ∷ []) (length items)))
    ((reads front).reads_back x (flat_map spelling items ++ rest) fits.0)
    ∙ (each_back Fits spelling item reads items (front ++ x ∷ []) rest fits.1 ∙ ap (λ (l : List A). Ok (l, rest)) (append_assoc front (x ∷ []) items)))

-- so many items one behind the other
pub each_reads : {A : Type 0} (Fits : List A → A → Type 0) (spelling : A → List ℕ) (item : List A → List ℕ → Result (A × List ℕ) ℕ)
    → ((front : List A) → IsRead (Fits front) spelling (item front))
    → (count : ℕ) → IsRead (λ items. (length items ≡ count) × FitsEach Fits [] items) (flat_map spelling) (each_at item [] count)
each_reads {A} Fits spelling item reads count = record {
  reads_back = λ items rest fits. subst (λ (n : ℕ). each_at item [] n (flat_map spelling items ++ rest) ≡ Ok (items, rest)) fits.0
      (each_back Fits spelling item reads items [] rest fits.1);
  one_spelling = λ bytes all rest fit e.
      let found = each_found Fits spelling item reads count [] bytes all rest fit e in
      subst (λ (l : List A). ((length l ≡ count) × FitsEach Fits [] l) × (bytes ≡ flat_map spelling l ++ rest)) (sym found.parts)
      ((found.many, found.fit), found.spelled);
}

digest_field : IsField (λ digest. length digest ≡ 32) (λ digest. digest) digest_at
unfolding digest_at
digest_field = record {
  reads_back = λ digest rest is.
      let long : ltb (length (digest ++ rest)) 32 ≡ false = le-ltb _ _ (omega (arith, is, length-append digest rest)) in
      let found : List ℕ → List ℕ → Option (List ℕ × List ℕ) = λ a b. Some (a, b) in
      ap (λ (b : Bool). cond b None (found (take 32 (digest ++ rest)) (drop 32 (digest ++ rest)))) long
      ∙ (ap (λ (l : List ℕ). found l (drop 32 (digest ++ rest))) (take_at digest rest 32 is) ∙ ap (λ (l : List ℕ). found digest l) (drop_at digest rest 32 is));
  one_spelling = λ bytes digest rest fit e. parts bytes digest rest (ltb (length bytes) 32) refl e;
} where
  parts : (bytes digest rest : List ℕ) (b : Bool) → b ≡ ltb (length bytes) 32
      → cond {A = Option (List ℕ × List ℕ)} b None (Some (take 32 bytes, drop 32 bytes)) ≡ Some (digest, rest) → (length digest ≡ 32)
      × (bytes ≡ digest ++ rest)
  parts bytes digest rest true is e = absurd cc
  parts bytes digest rest false is e =
      let long : 32 ≤ length bytes = ltb-false (length bytes) 32 (sym is) in
      let both = some_pair_parts (take 32 bytes) digest (drop 32 bytes) rest e in
      let first = both.0 in
      let second = both.1 in (
        omega (arith, long, length-take 32 bytes, ap length first),
        sym (take-append-drop 32 bytes) ∙ (ap (λ (l : List ℕ). l ++ drop 32 bytes) first ∙ ap (λ (l : List ℕ). digest ++ l) second),
      )

abbrev SlotFits : (ℕ → Bool) → ℕ → Type 0
SlotFits used slot = (slot < 16384) × (used slot ≡ false)

slot_reads : (used : ℕ → Bool) → IsRead (SlotFits used) u32_bytes (slot_at used)
slot_reads used = fits_as (λ n. (n < 2 ^ 32) × ((ltb n 16384 && not (used n)) ≡ true)) (SlotFits used) u32_bytes (slot_at used)
    (λ n fits. let parts = and_parts _ _ fits.1 in (ltb-true n 16384 parts.0, opposite (used n) parts.1))
    (λ n is. (let small = is.0 in omega arith, and_from _ _ (lt-ltb n 16384 is.0) (negated (used n) is.1)))
    (field_reads (λ n. n < 2 ^ 32) u32_bytes u32_at (λ n. ltb n 16384 && not (used n)) u32_field)

digest_reads : IsRead (λ (digest : List ℕ). (length digest ≡ 32) × (true ≡ true)) (λ digest. digest) (field digest_at (λ digest. true))
digest_reads = field_reads (λ (digest : List ℕ). length digest ≡ 32) (λ digest. digest) digest_at (λ digest. true) digest_field

abbrev ChunkFits : (ℕ → Bool) → Chunk → Type 0
ChunkFits used chunk = (chunk.slot < 16384) × (used chunk.slot ≡ false) × (length chunk.digest ≡ 32)

chunk_reads : (used : ℕ → Bool) → IsRead (ChunkFits used) chunk_bytes (chunk_at used)
unfolding chunk_at
chunk_reads used = is_read
    (finds_then (slot_reads used) (λ slot slot-fits. finds_then digest_reads (λ digest digest-fits. finds_done (slot-fits.0, slot-fits.1, digest-fits.0) refl)))
    (λ chunk fits. backs_as (ap (λ (l : List ℕ). u32_bytes chunk.slot ++ l) (append-nil chunk.digest))
    (backs_then _ chunk.slot (slot_reads used) (fits.0, fits.1) (backs_then _ chunk.digest digest_reads (fits.2, refl) backs_done)))

-- one chunk more
or_slots-push : (used : ℕ → Bool) (front : List Chunk) (chunk : Chunk) → or_slots used (front ++ chunk ∷ []) ≡ or_slot (or_slots used front) chunk.slot
or_slots-push used [] chunk = refl
or_slots-push used (first ∷ front) chunk = or_slots-push (or_slot used first.slot) front chunk

free_each : (used : ℕ → Bool) (chunks front : List Chunk) → FitsEach (λ before. ChunkFits (or_slots used before)) front chunks
    → HaveFreeSlots (or_slots used front) chunks
free_each used [] front fits = tt
free_each used (chunk ∷ chunks) front fits = (
  fits.0.0,
  fits.0.1,
  fits.0.2,
  subst (λ (u : ℕ → Bool). HaveFreeSlots u chunks) (or_slots-push used front chunk)
      (free_each used chunks (front ++ chunk ∷ []) fits.1),
)

each_free : (used : ℕ → Bool) (chunks front : List Chunk) → HaveFreeSlots (or_slots used front) chunks
    → FitsEach (λ before. ChunkFits (or_slots used before)) front chunks
each_free used [] front free = tt
each_free used (chunk ∷ chunks) front free = (
  (free.0, free.1, free.2),
  each_free used chunks (front ++ chunk ∷ [])
      (subst (λ (u : ℕ → Bool). HaveFreeSlots u chunks) (sym (or_slots-push used front chunk)) free.3),
)

chunks_reads : (used : ℕ → Bool) (count : ℕ)
    → IsRead (λ chunks. (length chunks ≡ count) × HaveFreeSlots used chunks) chunks_bytes (each_at (next_chunk_at used) [] count)
chunks_reads used count =
    fits_as (λ chunks. (length chunks ≡ count) × FitsEach (λ before. ChunkFits (or_slots used before)) [] chunks)
    (λ chunks. (length chunks ≡ count) × HaveFreeSlots used chunks) chunks_bytes (each_at (next_chunk_at used) [] count)
    (λ chunks fits. (fits.0, free_each used chunks [] fits.1))
    (λ chunks fits. (fits.0, each_free used chunks [] fits.1))
    (each_reads (λ before. ChunkFits (or_slots used before)) chunk_bytes (next_chunk_at used) (λ before. chunk_reads (or_slots used before)) count)

few_chunks : (size : ℕ) → size ≤ 65536 → chunk_count size < 2 ^ 8
few_chunks size most = omega arith

count_reads : (size : ℕ) → size ≤ 65536 → IsRead (λ n. n ≡ chunk_count size) u8_bytes (count_at size)
unfolding count_at
count_reads size most = fits_as (λ n. (n < 2 ^ 8) × (eqb n (chunk_count size) ≡ true)) (λ n. n ≡ chunk_count size) u8_bytes (count_at size)
    (λ n fits. eqb-true n (chunk_count size) fits.1)
    (λ n is. (omega (arith, is, few_chunks size most), eq-eqb n (chunk_count size) is))
    (field_reads (λ n. n < 2 ^ 8) u8_bytes u8_at (λ n. eqb n (chunk_count size)) u8_field)

row_reads : (used : ℕ → Bool) → IsRead (RowFits used) row_bytes (row_at used)
unfolding row_at
row_reads used = is_read
    (finds_then length_reads (λ size size-fits. finds_then (count_reads size size-fits.1)
    (λ count count-fits. finds_then (chunks_reads used count) (λ chunks fits.
    finds_done (record { least = size-fits.0; most = size-fits.1; count = fits.0 ∙ count-fits; chunks = fits.1 })
    (ap (λ (n : ℕ). u32_bytes size ++ u8_bytes n ++ chunks_bytes chunks) (sym fits.0))))))
    (λ row fits. backs_as (simp (append_assoc, append-nil))
    (backs_then _ row.length length_reads (fits.least, fits.most) (backs_then _ (length row.chunks) (count_reads row.length fits.most) fits.count
    (backs_then _ row.chunks (chunks_reads used (length row.chunks)) (refl, fits.chunks) backs_done))))

block_passes : (n : ℕ) → is_block_number n ≡ true → IsBlockNumber n
block_passes n e = let parts = and_parts _ _ e in (leb-true _ _ parts.0, leb-true _ _ parts.1)

block_from : (n : ℕ) → IsBlockNumber n → is_block_number n ≡ true
block_from n is = and_from _ _ (le-leb 1 n is.0) (le-leb n _ is.1)

abbrev ContainerFits : Node → ℕ → Type 0
ContainerFits node n = IsBlockNumber n × (is_deleted (node.states n) ≡ false)

container_reads : (node : Node) → IsRead (ContainerFits node) u64_bytes (container_at node)
unfolding container_at
container_reads node =
    fits_as (λ n. (n < 2 ^ 64) × ((is_block_number n && not (is_deleted (node.states n))) ≡ true)) (ContainerFits node) u64_bytes (container_at node)
    (λ n fits. let parts = and_parts (is_block_number n) (not (is_deleted (node.states n))) fits.1 in
    (block_passes n parts.0, opposite (is_deleted (node.states n)) parts.1))
    (λ n is. (
      let high = is.0.1 in omega arith,
      and_from (is_block_number n) (not (is_deleted (node.states n))) (block_from n is.0) (negated (is_deleted (node.states n)) is.1),
    ))
    (field_reads (λ n. n < 2 ^ 64) u64_bytes u64_at (λ n. is_block_number n && not (is_deleted (node.states n))) u64_field)

abbrev LocalFits : Node → ℕ → ℕ → Type 0
LocalFits node container n = IsBlockNumber n × (is_held node (record { container = container; local = n }) ≡ false)

local_reads : (node : Node) (container : ℕ) → IsRead (LocalFits node container) u64_bytes (local_at node container)
unfolding local_at
local_reads node container =
    fits_as (λ n. (n < 2 ^ 64) × ((is_block_number n && not (is_held node (record { container = container; local = n }))) ≡ true))
    (LocalFits node container) u64_bytes (local_at node container)
    (λ n fits. let parts = and_parts (is_block_number n) (not (is_held node (record { container = container; local = n }))) fits.1 in
    (block_passes n parts.0, opposite (is_held node (record { container = container; local = n })) parts.1))
    (λ n is. (
      let high = is.0.1 in omega arith,
      and_from (is_block_number n) (not (is_held node (record { container = container; local = n }))) (block_from n is.0)
          (negated (is_held node (record { container = container; local = n })) is.1),
    ))
    (field_reads (λ n. n < 2 ^ 64) u64_bytes u64_at (λ n. is_block_number n && not (is_held node (record { container = container; local = n }))) u64_field)

abbrev BlockFits : Node → Block → Type 0
BlockFits node block = ContainerFits node block.container × LocalFits node block.container block.local

new_block_reads : (node : Node) → IsRead (BlockFits node) block_bytes (new_block_at node)
unfolding new_block_at
new_block_reads node = is_read
    (finds_then (container_reads node) (λ container container-fits. finds_then (local_reads node container)
    (λ local local-fits. finds_done (container-fits, local-fits) refl)))
    (λ block fits. backs_as (simp append-nil)
    (backs_then _ block.container (container_reads node) fits.0 (backs_then _ block.local (local_reads node block.container) fits.1 backs_done)))

put_finds : (node : Node) → Finds (MayFollow node) entry_bytes (1 ∷ []) (put_at node)
unfolding put_at
put_finds node = finds_then (new_block_reads node) (λ block block-fits. finds_then (row_reads (is_used node)) (λ row row-fits.
    finds_done ((block-fits.0.0, block-fits.1.0), block-fits.0.1, block-fits.1.1, row-fits) refl))

put_backs : (node : Node) (block : Block) (row : BlockRow) → MayFollow node (Put block row)
    → Backs (put_at node) (block_bytes block ++ row_bytes row) (Put block row)
unfolding put_at
put_backs node block row fits = backs_as (ap (λ (l : List ℕ). block_bytes block ++ l) (append-nil (row_bytes row)))
    (backs_then _ block (new_block_reads node) ((fits.0.0, fits.1), (fits.0.1, fits.2)) (backs_then _ row (row_reads (is_used node)) fits.3 backs_done))

byte_reads : IsRead (λ n. (n < 2 ^ 8) × ((leb 1 n && leb n 6) ≡ true)) u8_bytes (field u8_at (λ n. leb 1 n && leb n 6))
byte_reads = field_reads (λ n. n < 2 ^ 8) u8_bytes u8_at (λ n. leb 1 n && leb n 6) u8_field

byte_of_state : (n : ℕ) → 1 ≤ n → n ≤ 6 → n ≡ state_number (state_of n)
byte_of_state n low high =
    by (eqb n 1) (eqb n 2) (eqb n 3) (eqb n 4) (eqb n 5) (eqb-true n 1) (eqb-true n 2) (eqb-true n 3) (eqb-true n 4) (eqb-true n 5)
    (λ a b c d e. grind arith)
  where
    by : (a b c d e : Bool) → (a ≡ true → n ≡ 1) → (b ≡ true → n ≡ 2) → (c ≡ true → n ≡ 3) → (d ≡ true → n ≡ 4) → (e ≡ true → n ≡ 5)
        → (a ≡ false → b ≡ false → c ≡ false → d ≡ false → e ≡ false → n ≡ 6)
        → n ≡ state_number (cond a states.Open (cond b states.Closing
        (cond c states.QuasiClosed (cond d states.Closed (cond e states.Deleting states.Deleted)))))
    by true b c d e one two three four five six = one refl
    by false true c d e one two three four five six = two refl
    by false false true d e one two three four five six = three refl
    by false false false true e one two three four five six = four refl
    by false false false false true one two three four five six = five refl
    by false false false false false one two three four five six = six refl refl refl refl refl

state_finds : (n : ℕ) → (n < 2 ^ 8) × ((leb 1 n && leb n 6) ≡ true)
    → Finds (λ (state : State). Unit {0}) (λ state. u8_bytes (state_number state)) (n ∷ []) (done (state_of n))
state_finds n fits =
    let parts = and_parts (leb 1 n) (leb n 6) fits.1 in
    finds_done tt (ap (λ (k : ℕ). k ∷ []) (byte_of_state n (leb-true 1 n parts.0) (leb-true n 6 parts.1)))

state_backs : (state : State) → Unit {0} → Backs state_at (u8_bytes (state_number state)) state
unfolding state_at
state_backs states.Open fits = record { back = λ rest. refl }
state_backs states.Closing fits = record { back = λ rest. refl }
state_backs states.QuasiClosed fits = record { back = λ rest. refl }
state_backs states.Closed fits = record { back = λ rest. refl }
state_backs states.Deleting fits = record { back = λ rest. refl }
state_backs states.Deleted fits = record { back = λ rest. refl }

state_reads : IsRead (λ state. Unit {0}) (λ state. u8_bytes (state_number state)) state_at
unfolding state_at
state_reads = is_read (finds_then byte_reads state_finds) state_backs

set_state_finds : (node : Node) → Finds (MayFollow node) entry_bytes (2 ∷ []) set_state_at
unfolding set_state_at
set_state_finds node = finds_then owner_reads (λ container container-fits. finds_then state_reads (λ state state-fits. finds_done container-fits refl))

set_state_backs : (container : ℕ) (state : State) → container < 2 ^ 64
    → Backs set_state_at (u64_bytes container ++ u8_bytes (state_number state)) (SetState container state)
unfolding set_state_at
set_state_backs container state fits =
    backs_as (ap (λ (l : List ℕ). u64_bytes container ++ l) (append-nil (u8_bytes (state_number state))))
    (backs_then _ container owner_reads fits (backs_then _ state state_reads tt backs_done))

-- local ids one behind the other
all_each : (locals front : List ℕ) → FitsEach (λ before local. local < 2 ^ 64) front locals → AllByRecursion (λ local. local < 2 ^ 64) locals
all_each [] front fits = tt
all_each (local ∷ locals) front fits = (fits.0, all_each locals (front ++ local ∷ []) fits.1)

each_all : (locals front : List ℕ) → AllByRecursion (λ local. local < 2 ^ 64) locals → FitsEach (λ before local. local < 2 ^ 64) front locals
each_all [] front fits = tt
each_all (local ∷ locals) front fits = (fits.0, each_all locals (front ++ local ∷ []) fits.1)

ids_read : (count : ℕ)
    → IsRead (λ locals. (length locals ≡ count) × AllByRecursion (λ local. local < 2 ^ 64) locals) (flat_map u64_bytes)
    (each_at (λ before. owner_at) [] count)
ids_read count = fits_as (λ locals. (length locals ≡ count) × FitsEach (λ before local. local < 2 ^ 64) [] locals)
    (λ locals. (length locals ≡ count) × AllByRecursion (λ local. local < 2 ^ 64) locals) (flat_map u64_bytes) (each_at (λ before. owner_at) [] count)
    (λ locals fits. (fits.0, all_each locals [] fits.1))
    (λ locals fits. (fits.0, each_all locals [] fits.1))
    (each_reads (λ before local. local < 2 ^ 64) u64_bytes (λ before. owner_at) (λ before. owner_reads) count)

locals_count_reads : IsRead (λ n. (1 ≤ n) × (n ≤ 1024)) u16_bytes (field u16_at (λ n. leb 1 n && leb n 1024))
locals_count_reads =
    fits_as (λ n. (n < 2 ^ 16) × ((leb 1 n && leb n 1024) ≡ true)) (λ n. (1 ≤ n) × (n ≤ 1024)) u16_bytes (field u16_at (λ n. leb 1 n && leb n 1024))
    (λ n fits. let parts = and_parts (leb 1 n) (leb n 1024) fits.1 in (leb-true 1 n parts.0, leb-true n 1024 parts.1))
    (λ n is. (let high = is.1 in omega arith, and_from (leb 1 n) (leb n 1024) (le-leb 1 n is.0) (le-leb n 1024 is.1)))
    (field_reads (λ n. n < 2 ^ 16) u16_bytes u16_at (λ n. leb 1 n && leb n 1024) u16_field)

abbrev LocalsFit : List ℕ → Type 0
LocalsFit locals = (1 ≤ length locals) × (length locals ≤ 1024) × AllByRecursion (λ local. local < 2 ^ 64) locals

locals_read : IsRead LocalsFit locals_bytes locals_at
unfolding locals_at
locals_read = is_read
    (finds_then locals_count_reads (λ count some. finds_last (ids_read count)
    (λ locals fits. (
      (omega (arith, some.0, fits.0), omega (arith, some.1, fits.0), fits.1),
      ap (λ (n : ℕ). u16_bytes n ++ flat_map u64_bytes locals) (sym fits.0),
    ))))
    (λ locals fits. backs_then _ (length locals) locals_count_reads (fits.0, fits.1) (backs_last locals (ids_read (length locals)) (refl, fits.2)))

abbrev txn_bytes : Txn → List ℕ
txn_bytes txn = u64_bytes txn.number ++ locals_bytes txn.locals

abbrev TxnFits : ℕ → Txn → Type 0
TxnFits container txn = (txn.container ≡ container) × ((1 ≤ txn.number) × (txn.number < 2 ^ 64)) × LocalsFit txn.locals

numbered_reads : (container : ℕ) → IsRead (TxnFits container) txn_bytes (numbered_at container)
unfolding numbered_at
numbered_reads container = is_read
    (finds_then number_reads (λ number number-fits. finds_then locals_read (λ locals locals-fits. finds_done (refl, number-fits, locals-fits) refl)))
    (λ txn fits. backs_as (ap (λ (l : List ℕ). u64_bytes txn.number ++ l) (append-nil (locals_bytes txn.locals)))
    (subst (λ (c : ℕ). Backs (numbered_at c) (u64_bytes txn.number ++ (locals_bytes txn.locals ++ [])) txn) fits.0
    (backs_then _ txn.number number_reads fits.1 (backs_then _ txn.locals locals_read fits.2 backs_done))))

-- what was read
abbrev pub as_read : {A : Type 0} → A × List ℕ → Result (A × List ℕ) ℕ
as_read found = Ok found

checked_is : {A : Type 0} (rule : A → Bool) (left : ℕ) (read : Result (A × List ℕ) ℕ) (found : A × List ℕ) → checked rule left read ≡ Ok found
    → (read ≡ Ok found) × (rule found.0 ≡ true)
checked_is rule left (Err far) found e = absurd cc
checked_is {A} rule left (Ok x) found e = by (rule x.0) refl e
  where
    by : (b : Bool) → b ≡ rule x.0 → cond b (Ok x) (Err left) ≡ Ok found → (as_read x ≡ as_read found) × (rule found.0 ≡ true)
    by true is same = let one : x ≡ found = cc same in (ap (λ (p : A × List ℕ). as_read p) one, subst (λ (p : A × List ℕ). rule p.0 ≡ true) one (sym is))
    by false is same = absurd cc

-- a reading whose value keeps a rule
checked_reads : {A : Type 0} (Fits : A → Type 0) (spelling : A → List ℕ) (read : List ℕ → Result (A × List ℕ) ℕ) (rule : A → Bool)
    → IsRead Fits spelling read → IsRead (λ value. Fits value × (rule value ≡ true)) spelling (λ bytes. checked rule (length bytes) (read bytes))
checked_reads {A} Fits spelling read rule is = record {
  reads_back = λ value rest fits.
      ap (λ (r : Result (A × List ℕ) ℕ). checked rule (length (spelling value ++ rest)) r) (is.reads_back value rest fits.0)
      ∙ ap (λ (b : Bool). cond b (Ok (value, rest)) (Err (length (spelling value ++ rest)))) fits.1;
  one_spelling = λ bytes value rest fit e.
      let found = checked_is rule (length bytes) (read bytes) (value, rest) e in
      let spelled = is.one_spelling bytes value rest fit found.0 in
      ((spelled.0, found.1), spelled.1);
}

due_reads : (node : Node) (container : ℕ) → IsRead (λ txn. TxnFits container txn × (is_due node txn ≡ true)) txn_bytes (due_at node container)
unfolding due_at
due_reads node container = checked_reads (TxnFits container) txn_bytes (numbered_at container) (is_due node) (numbered_reads container)

apply_finds : (node : Node) → Finds (MayFollow node) entry_bytes (3 ∷ []) (apply_at node)
unfolding apply_at
apply_finds node = finds_then owner_reads (λ container container-fits. finds_then (due_reads node container) (λ txn fits.
    finds_done (subst (λ (c : ℕ). c < 2 ^ 64) (sym fits.0.0) container-fits, fits.0.1.0, fits.0.1.1, fits.0.2.0, fits.0.2.1, fits.0.2.2, fits.1)
    (ap (λ (c : ℕ). 3 ∷ (u64_bytes c ++ txn_bytes txn)) (sym fits.0.0)
    ∙ ap (λ (l : List ℕ). 3 ∷ l) (sym (append_assoc (u64_bytes txn.container) (u64_bytes txn.number) (locals_bytes txn.locals))))))

apply_backs : (node : Node) (txn : Txn) → MayFollow node (Apply txn)
    → Backs (apply_at node) (u64_bytes txn.container ++ u64_bytes txn.number ++ locals_bytes txn.locals) (Apply txn)
unfolding apply_at
apply_backs node txn fits = backs_as (simp (append_assoc, append-nil))
    (backs_then _ txn.container owner_reads fits.0
    (backs_then _ txn (due_reads node txn.container) ((refl, (fits.1, fits.2), (fits.3, fits.4, fits.5)), fits.6) backs_done))

abbrev EmptiedFits : Node → ℕ → Type 0
EmptiedFits node n = (n < 2 ^ 64) × (uses_a_slot node n ≡ false)

emptied_reads : (node : Node) → IsRead (EmptiedFits node) u64_bytes (emptied_at node)
unfolding emptied_at
emptied_reads node = fits_as (λ n. (n < 2 ^ 64) × (not (uses_a_slot node n) ≡ true)) (EmptiedFits node) u64_bytes (emptied_at node)
    (λ n fits. (fits.0, opposite (uses_a_slot node n) fits.1))
    (λ n is. (is.0, negated (uses_a_slot node n) is.1))
    (field_reads (λ n. n < 2 ^ 64) u64_bytes u64_at (λ n. not (uses_a_slot node n)) u64_field)

drop_finds : (node : Node) → Finds (MayFollow node) entry_bytes (4 ∷ []) (dropped_at node)
unfolding dropped_at
drop_finds node = finds_then (emptied_reads node) (λ container container-fits. finds_done container-fits refl)

drop_backs : (node : Node) (container : ℕ) → MayFollow node (Drop container) → Backs (dropped_at node) (u64_bytes container) (Drop container)
unfolding dropped_at
drop_backs node container fits = backs_as (append-nil (u64_bytes container)) (backs_then _ container (emptied_reads node) fits backs_done)

entry_of_tag_finds : (node : Node) (left tag : ℕ) → Finds (MayFollow node) entry_bytes (tag ∷ []) (entry_of_tag_at node left tag)
entry_of_tag_finds node left tag =
    finds_either (eqb tag 1) (λ is. subst (λ (k : ℕ). Finds (MayFollow node) entry_bytes (k ∷ []) (put_at node)) (sym (eqb-true tag 1 is)) (put_finds node))
    (λ _. finds_either (eqb tag 2) (λ is. subst (λ (k : ℕ). Finds (MayFollow node) entry_bytes (k ∷ []) set_state_at) (sym (eqb-true tag 2 is))
    (set_state_finds node))
    (λ _. finds_either (eqb tag 3) (λ is. subst (λ (k : ℕ). Finds (MayFollow node) entry_bytes (k ∷ []) (apply_at node)) (sym (eqb-true tag 3 is))
    (apply_finds node)) (λ _. finds_either (eqb tag 4)
    (λ is. subst (λ (k : ℕ). Finds (MayFollow node) entry_bytes (k ∷ []) (dropped_at node)) (sym (eqb-true tag 4 is)) (drop_finds node))
    (λ _. finds_none))))

entry_found : (node : Node) (bytes : List ℕ) (entry : Entry) (rest : List ℕ) → AreBytes bytes → entry_at node bytes ≡ Ok (entry, rest)
    → MayFollow node entry × (bytes ≡ entry_bytes entry ++ rest)
unfolding entry_at
entry_found node [] entry rest fit e = absurd cc
entry_found node (tag ∷ bytes) entry rest fit e =
    (entry_of_tag_finds node (suc (length bytes)) tag).found bytes entry rest (AreBytes-behind (tag ∷ bytes) (tag ∷ []) bytes fit refl) e

entry_back : (node : Node) (entry : Entry) (rest : List ℕ) → MayFollow node entry → entry_at node (entry_bytes entry ++ rest) ≡ Ok (entry, rest)
unfolding entry_at
entry_back node (Put block row) rest fits = (put_backs node block row fits).back rest
entry_back node (SetState container state) rest fits = (set_state_backs container state fits).back rest
entry_back node (Apply txn) rest fits = (apply_backs node txn fits).back rest
entry_back node (Drop container) rest fits = (drop_backs node container fits).back rest

-- an entry over what was held before it
pub entry_reads : (node : Node) → IsRead (MayFollow node) entry_bytes (entry_at node)
entry_reads node = record { reads_back = entry_back node; one_spelling = entry_found node }
