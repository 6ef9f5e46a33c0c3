-- The fields of rows read as they are spelled.
use Rattle.std.proofs.Common.{◌≡◌, ℕ, ◌<◌, ◌≤◌, ◌^◌, Bool, true, false, ◌&&◌, ◌||◌, eqb, leb, ltb, cond, List, [], ◌∷◌}
use Rattle.std.proofs.Common.{◌++◌, length, Result, refl, sym, ap, ◌∙◌, arith}
use Rattle.std.proofs.lemmas.Bool.{and_parts, and_from, leb-true, le-leb, ltb-true, lt-ltb, eqb-true, eq-eqb}
use Rattle.std.specs.List.{flat_map, AllByRecursion}
use Rattle.std.proofs.Common.{suc, zero}
use Rattle.std.proofs.lemmas.List.{append-nil}
use Rattle.std.proofs.lemmas.List.Concat.{flat_map-cons}
use Rattle.oz_fields.specs.Number.{u8_bytes, u16_bytes, u32_bytes, u64_bytes, u8_at, u16_at, u32_at, u64_at}
use Rattle.oz_fields.specs.Text.{text_bytes, text_at}
use Rattle.oz_fields.specs.laws.Numbers.{u8_field, u16_field, u32_field, u64_field}
use Rattle.oz_fields.specs.laws.Texts.{text_field}
use Rattle.oz_names.specs.Names.{IsVolumeName, IsKeyName, is_volume_name, is_key_name}
use Rattle.oz_names.specs.laws.NameTests.{volume_name-passes, volume_name-from, key_name-passes, key_name-from}
use Rattle.oz_rows.specs.declared.row.SnapshotState.{SnapshotState}
use Rattle.oz_rows.specs.declared.row.SnapshotState.TheVariants.{Live, Marked}
use Rattle.oz_rows.specs.Rows.{IsNumber, IsOwner, IsBlockNumber, IsBlock, IsPiece, AreItems, list_bytes, block_bytes}
use Rattle.oz_rows.specs.Rows.{piece_bytes, state_number}
use Rattle.oz_rows.specs.Reading.{volume_name_at, key_name_at, owner_at, number_at, is_block_number, block_number_at}
use Rattle.oz_rows.specs.Reading.{same_local_at, drawn_at, length_at, stripe_at, state_at, done, count_at, block_at}
use Rattle.oz_rows.specs.Reading.{piece_at, items_at, list_at, field}
use Rattle.oz_rows.specs.laws.Grammar.{IsRead, Finds, Backs, fits_as, field_reads, finds_done, finds_then, finds_last}
use Rattle.oz_rows.specs.laws.Grammar.{backs_done, backs_then, backs_last, backs_as, is_read}

pub volume_name_reads : IsRead IsVolumeName text_bytes volume_name_at
unfolding volume_name_at
volume_name_reads = fits_as (λ name. (length name < 2 ^ 16) × (is_volume_name name ≡ true)) IsVolumeName text_bytes volume_name_at
    (λ name fits. volume_name-passes name fits.1)
    (λ name is. (let short = is.short_enough in omega arith, volume_name-from name is))
    (field_reads (λ name. length name < 2 ^ 16) text_bytes text_at is_volume_name text_field)

pub key_name_reads : IsRead IsKeyName text_bytes key_name_at
unfolding key_name_at
key_name_reads = fits_as (λ name. (length name < 2 ^ 16) × (is_key_name name ≡ true)) IsKeyName text_bytes key_name_at
    (λ name fits. key_name-passes name fits.1)
    (λ name is. (let short = is.short_enough in omega arith, key_name-from name is))
    (field_reads (λ name. length name < 2 ^ 16) text_bytes text_at is_key_name text_field)

pub owner_reads : IsRead IsOwner u64_bytes owner_at
unfolding owner_at
owner_reads = fits_as (λ n. (n < 2 ^ 64) × (true ≡ true)) IsOwner u64_bytes owner_at
    (λ n fits. fits.0)
    (λ n is. (is, refl))
    (field_reads (λ n. n < 2 ^ 64) u64_bytes u64_at (λ n. true) u64_field)

pub number_reads : IsRead IsNumber u64_bytes number_at
unfolding number_at
number_reads = fits_as (λ n. (n < 2 ^ 64) × (leb 1 n ≡ true)) IsNumber u64_bytes number_at
    (λ n fits. (leb-true 1 n fits.1, fits.0))
    (λ n is. (is.1, le-leb 1 n is.0))
    (field_reads (λ n. n < 2 ^ 64) u64_bytes u64_at (λ n. leb 1 n) u64_field)

block_number-passes : (n : ℕ) → is_block_number n ≡ true → IsBlockNumber n
block_number-passes n e = let parts = and_parts _ _ e in (leb-true _ _ parts.0, leb-true _ _ parts.1)

block_number-from : (n : ℕ) → IsBlockNumber n → is_block_number n ≡ true
block_number-from n is = and_from _ _ (le-leb 1 n is.0) (le-leb n _ is.1)

pub block_number_reads : IsRead IsBlockNumber u64_bytes block_number_at
unfolding block_number_at
block_number_reads = fits_as (λ n. (n < 2 ^ 64) × (is_block_number n ≡ true)) IsBlockNumber u64_bytes block_number_at
    (λ n fits. block_number-passes n fits.1)
    (λ n is. (let high = is.1 in omega arith, block_number-from n is))
    (field_reads (λ n. n < 2 ^ 64) u64_bytes u64_at is_block_number u64_field)

pub same_local_reads : (local : ℕ) → IsRead (λ n. IsBlockNumber n × (n ≡ local)) u64_bytes (same_local_at local)
unfolding same_local_at
same_local_reads local =
    fits_as (λ n. (n < 2 ^ 64) × ((is_block_number n && eqb n local) ≡ true)) (λ n. IsBlockNumber n × (n ≡ local)) u64_bytes (same_local_at local)
    (λ n fits. let parts = and_parts _ _ fits.1 in (block_number-passes n parts.0, eqb-true n local parts.1))
    (λ n is. (let high = is.0.1 in omega arith, and_from _ _ (block_number-from n is.0) (eq-eqb n local is.1)))
    (field_reads (λ n. n < 2 ^ 64) u64_bytes u64_at (λ n. is_block_number n && eqb n local) u64_field)

pub drawn_reads : IsRead (λ n. n ≤ 2 ^ 48) u64_bytes drawn_at
unfolding drawn_at
drawn_reads = fits_as (λ n. (n < 2 ^ 64) × (leb n (2 ^ 48) ≡ true)) (λ n. n ≤ 2 ^ 48) u64_bytes drawn_at
    (λ n fits. leb-true n (2 ^ 48) fits.1)
    (λ n is. (omega arith, le-leb n (2 ^ 48) is))
    (field_reads (λ n. n < 2 ^ 64) u64_bytes u64_at (λ n. leb n (2 ^ 48)) u64_field)

pub length_reads : IsRead (λ n. (1 ≤ n) × (n ≤ 65536)) u32_bytes length_at
unfolding length_at
length_reads = fits_as (λ n. (n < 2 ^ 32) × ((leb 1 n && leb n 65536) ≡ true)) (λ n. (1 ≤ n) × (n ≤ 65536)) u32_bytes length_at
    (λ n fits. let parts = and_parts _ _ fits.1 in (leb-true _ _ parts.0, leb-true _ _ parts.1))
    (λ n is. (let high = is.1 in omega arith, and_from _ _ (le-leb 1 n is.0) (le-leb n 65536 is.1)))
    (field_reads (λ n. n < 2 ^ 32) u32_bytes u32_at (λ n. leb 1 n && leb n 65536) u32_field)

pub stripe_reads : IsRead (λ n. n < 16) u8_bytes stripe_at
unfolding stripe_at
stripe_reads = fits_as (λ n. (n < 2 ^ 8) × (ltb n 16 ≡ true)) (λ n. n < 16) u8_bytes stripe_at
    (λ n fits. ltb-true n 16 fits.1)
    (λ n is. (omega arith, lt-ltb n 16 is))
    (field_reads (λ n. n < 2 ^ 8) u8_bytes u8_at (λ n. ltb n 16) u8_field)

pub count_reads : (least : ℕ) → IsRead (λ n. (least ≤ n) × (n ≤ 256)) u16_bytes (count_at least)
unfolding count_at
count_reads least = fits_as (λ n. (n < 2 ^ 16) × ((leb least n && leb n 256) ≡ true)) (λ n. (least ≤ n) × (n ≤ 256)) u16_bytes (count_at least)
    (λ n fits. let parts = and_parts _ _ fits.1 in (leb-true _ _ parts.0, leb-true _ _ parts.1))
    (λ n is. (let high = is.1 in omega arith, and_from _ _ (le-leb least n is.0) (le-leb n 256 is.1)))
    (field_reads (λ n. n < 2 ^ 16) u16_bytes u16_at (λ n. leb least n && leb n 256) u16_field)

state_byte_reads : IsRead (λ n. (n < 2 ^ 8) × ((eqb n 1 || eqb n 2) ≡ true)) u8_bytes (field u8_at (λ n. eqb n 1 || eqb n 2))
state_byte_reads = field_reads (λ n. n < 2 ^ 8) u8_bytes u8_at (λ n. eqb n 1 || eqb n 2) u8_field

byte_of_state : (n : ℕ) → (one two : Bool) → (one ≡ true → n ≡ 1) → (two ≡ true → n ≡ 2) → (one || two) ≡ true → n ≡ state_number (cond one Live Marked)
byte_of_state n true two is-one is-two e = is-one refl
byte_of_state n false two is-one is-two e = is-two e

state_finds : (n : ℕ) → (n < 2 ^ 8) × ((eqb n 1 || eqb n 2) ≡ true)
    → Finds (λ (state : SnapshotState). Unit {0}) (λ state. u8_bytes (state_number state)) (n ∷ []) (done (cond (eqb n 1) Live Marked))
state_finds n fits = finds_done tt (ap (λ (k : ℕ). k ∷ []) (byte_of_state n (eqb n 1) (eqb n 2) (eqb-true n 1) (eqb-true n 2) fits.1))

state_backs : (state : SnapshotState) → Unit {0} → Backs state_at (u8_bytes (state_number state)) state
unfolding state_at
state_backs Live fits = record { back = λ rest. refl }
state_backs Marked fits = record { back = λ rest. refl }

pub state_reads : IsRead (λ state. Unit {0}) (λ state. u8_bytes (state_number state)) state_at
unfolding state_at
state_reads = is_read (finds_then state_byte_reads state_finds) state_backs

pub block_reads : IsRead IsBlock block_bytes block_at
unfolding block_at
block_reads = is_read
    (finds_then block_number_reads (λ container container-fits. finds_then block_number_reads
    (λ local local-fits. finds_done (container-fits, local-fits) refl)))
    (λ block fits. backs_as (simp append-nil)
    (backs_then _ block.container block_number_reads fits.0 (backs_then _ block.local block_number_reads fits.1 backs_done)))

pub piece_reads : IsRead IsPiece piece_bytes piece_at
unfolding piece_at
piece_reads = is_read
    (finds_then block_reads (λ block block-fits. finds_then length_reads (λ size size-fits. finds_done (block-fits, size-fits.0, size-fits.1) refl)))
    (λ piece fits. backs_as (simp append-nil)
    (backs_then _ piece.block block_reads fits.0 (backs_then _ piece.length length_reads (fits.1, fits.2) backs_done)))

none_reads : {A : Type 0} (Fits : A → Type 0) (spelling : A → List ℕ) (items : List A) → (length items ≡ 0) × AllByRecursion Fits items
    → Backs (done []) (flat_map spelling items) items
none_reads Fits spelling [] fits = backs_done
none_reads Fits spelling (x ∷ items) fits = absurd (omega (arith, fits.0))

-- one item more
some_back : {A : Type 0} {Fits : A → Type 0} {spelling : A → List ℕ} {read : List ℕ → Result (A × List ℕ) ℕ} → IsRead Fits spelling read → (count : ℕ)
    → IsRead (λ items. (length items ≡ count) × AllByRecursion Fits items) (flat_map spelling) (items_at read count)
    → (items : List A) → (length items ≡ suc count) × AllByRecursion Fits items → Backs (items_at read (suc count)) (flat_map spelling items) items
unfolding items_at
some_back is count others [] fits = absurd (omega (arith, fits.0))
some_back {spelling = spelling} is count others (x ∷ items) fits =
    backs_as (ap (λ (text : List ℕ). spelling x ++ text) (append-nil (flat_map spelling items)) ∙ sym (flat_map-cons spelling x items))
    (backs_then _ x is fits.1.0 (backs_then _ items others (omega (arith, fits.0), fits.1.1) backs_done))

-- so many items one behind the other
pub items_reads : {A : Type 0} {Fits : A → Type 0} {spelling : A → List ℕ} {read : List ℕ → Result (A × List ℕ) ℕ} → IsRead Fits spelling read → (count : ℕ)
    → IsRead (λ items. (length items ≡ count) × AllByRecursion Fits items) (flat_map spelling) (items_at read count)
unfolding items_at
items_reads {Fits = Fits} {spelling = spelling} is zero = is_read (finds_done (refl, tt) refl) (none_reads Fits spelling)
items_reads {A = A} {Fits = Fits} {spelling = spelling} {read = read} is (suc count) = is_read
    (finds_then is (λ x x-fits. finds_then (items_reads is count)
    (λ others fits. finds_done (ap suc fits.0, (x-fits, fits.1)) (sym (flat_map-cons spelling x others)))))
    (some_back is count (items_reads is count))

-- a count, and so many items
pub list_reads : {A : Type 0} {Fits : A → Type 0} {spelling : A → List ℕ} {read : List ℕ → Result (A × List ℕ) ℕ} → IsRead Fits spelling read
    → IsRead (AreItems Fits) (list_bytes spelling) (list_at read)
unfolding list_at
list_reads {spelling = spelling} is = is_read
    (finds_then (count_reads 0) (λ count few. finds_last (items_reads is count)
    (λ items fits. ((omega (arith, few.1, fits.0), fits.1), ap (λ (n : ℕ). u16_bytes n ++ flat_map spelling items) (sym fits.0)))))
    (λ items fits. backs_then _ (length items) (count_reads 0) (omega arith, fits.0) (backs_last items (items_reads is (length items)) (refl, fits.1)))
