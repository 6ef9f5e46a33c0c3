-- The example's rows are in the grammar.
use Rattle.std.proofs.Common.{◌≡◌, ◌≤◌, ◌<◌, ◌&&◌, ◌==◌, ◌^◌, ℕ, Bool, true, false, List, [], ◌∷◌, length, refl, arith}
use Rattle.std.specs.Prelude.{nat_le, nat_lt}
use mathlib.Core.Bool.{false≢true}
use Rattle.std.specs.List.{list_all, AllByRecursion}
use Rattle.std.proofs.lemmas.Bool.Decides.{nat_tests}
use Rattle.oz_fields.specs.declared.block.TheConstants.{GREATEST_BLOCK_NUMBER, LONGEST_PIECE}
use Rattle.oz_fields.specs.declared.block.Block.{Block}
use Rattle.oz_fields.specs.declared.block.Piece.{Piece}
use Rattle.oz_names.specs.declared.limits.TheConstants.{STRIPES, MOST_BLOCKS, MOST_NUMBERS}
use Rattle.oz_names.specs.Names.{is_volume_name, is_key_name}
use Rattle.oz_names.specs.laws.NameTests.{volume_name-passes, key_name-passes}
use Rattle.oz_rows.specs.declared.key.RowKey.{RowKey}
use Rattle.oz_rows.specs.declared.key.RowKey.TheVariants as keys
use Rattle.oz_rows.specs.declared.row.Row.{Row}
use Rattle.oz_rows.specs.declared.row.Row.TheVariants as values
use Rattle.oz_rows.specs.Rows.{IsNumber, IsBlock, IsPiece, AreItems, BeginsWith, KeyFits, ValueFits, RowFits}
use Rattle.oz_rows.specs.declared.entry.RowEntry.{RowEntry}
use Rattle.oz_sound.specs.example.Example.{rows}
use Rattle.oz_sound.proofs.example_lemmas.Lists.{split_and}
use Rattle.oz_sound.proofs.example_lemmas.Blocks.{eq_from}

at_most : (a b : ℕ) → nat_le a b ≡ true → a ≤ b
at_most a b e = grind (arith, nat_tests)

below : (a b : ℕ) → nat_lt a b ≡ true → a < b
below a b e = grind (arith, nat_tests)

module _ {A B : Type 0} (a b : Bool) (left : a ≡ true → A) (right : b ≡ true → B) where
  both : (a && b) ≡ true → A × B
  both e = let parts = split_and a b e in (left parts.0, right parts.1)

-- ---- fields

abbrev is_within : ℕ → ℕ → ℕ → Bool
is_within least most n = nat_le least n && nat_le n most

within : (least most n : ℕ) → is_within least most n ≡ true → (least ≤ n) × (n ≤ most)
within least most n e = both (nat_le least n) (nat_le n most) (at_most least n) (at_most n most) e

abbrev is_number : ℕ → Bool
is_number n = nat_le 1 n && nat_lt n (2 ^ 64)

number : (n : ℕ) → is_number n ≡ true → IsNumber n
number n e = both (nat_le 1 n) (nat_lt n (2 ^ 64)) (at_most 1 n) (below n (2 ^ 64)) e

abbrev is_a_block : Block → Bool
is_a_block block = is_within 1 GREATEST_BLOCK_NUMBER block.container && is_within 1 GREATEST_BLOCK_NUMBER block.local

a_block : (block : Block) → is_a_block block ≡ true → IsBlock block
a_block block e = both (is_within 1 GREATEST_BLOCK_NUMBER block.container) (is_within 1 GREATEST_BLOCK_NUMBER block.local) (within 1 GREATEST_BLOCK_NUMBER block.container) (within 1 GREATEST_BLOCK_NUMBER block.local) e

abbrev is_a_piece : Piece → Bool
is_a_piece piece = is_a_block piece.block && is_within 1 LONGEST_PIECE piece.length

a_piece : (piece : Piece) → is_a_piece piece ≡ true → IsPiece piece
a_piece piece e =
    let parts = split_and (is_a_block piece.block) (is_within 1 LONGEST_PIECE piece.length) e in
    let length = within 1 LONGEST_PIECE piece.length parts.1 in
    (a_block piece.block parts.0, length.0, length.1)

module _ {A : Type 0} (test : A → Bool) (Fits : A → Type 0) (fits : (a : A) → test a ≡ true → Fits a) where
  abbrev are_items : List A → Bool
  are_items items = nat_le (length items) MOST_BLOCKS && list_all test items

  all : (items : List A) → list_all test items ≡ true → AllByRecursion Fits items
  all [] e = tt
  all (x ∷ xs) e = both (test x) (list_all test xs) (fits x) (all xs) e

  items : (list : List A) → are_items list ≡ true → AreItems Fits list
  items list e = both (nat_le (length list) MOST_BLOCKS) (list_all test list) (at_most (length list) MOST_BLOCKS) (all list) e

begins_with : ℕ → List Block → Bool
begins_with local [] = false
begins_with local (first ∷ others) = first.local == local

begins : (local : ℕ) (blocks : List Block) → begins_with local blocks ≡ true → BeginsWith local blocks
unfolding begins_with
begins local [] e = absurd (false≢true e)
begins local (first ∷ others) e = eq_from first.local local e

-- ---- rows

abbrev is_key : RowKey → Bool
is_key (keys.Volume volume) = is_volume_name volume
is_key (keys.Bucket volume bucket) = is_volume_name volume && is_volume_name bucket
is_key (keys.Key volume bucket key) = is_volume_name volume && (is_volume_name bucket && is_key_name key)
is_key (keys.Open volume bucket key n) = is_volume_name volume && (is_volume_name bucket && (is_key_name key && is_number n))
is_key (keys.Deleted volume bucket owner key local) = is_volume_name volume && (is_volume_name bucket && (nat_lt owner (2 ^ 64) && (is_key_name key && is_within 1 GREATEST_BLOCK_NUMBER local)))
is_key (keys.Snapshot volume bucket n) = is_volume_name volume && (is_volume_name bucket && is_number n)
is_key (keys.SnapshotKey volume bucket n key) = is_volume_name volume && (is_volume_name bucket && (is_number n && is_key_name key))
is_key (keys.Renamed volume bucket owner local) = is_volume_name volume && (is_volume_name bucket && (nat_lt owner (2 ^ 64) && is_within 1 GREATEST_BLOCK_NUMBER local))
is_key (keys.Stripe stripe) = nat_lt stripe STRIPES

key_fits : (key : RowKey) → is_key key ≡ true → KeyFits key
key_fits (keys.Volume volume) e = volume_name-passes volume e
key_fits (keys.Bucket volume bucket) e = let a = split_and _ _ e in (volume_name-passes volume a.0, volume_name-passes bucket a.1)
key_fits (keys.Key volume bucket key) e =
    let a = split_and _ _ e in
    let b = split_and _ _ a.1 in
    (volume_name-passes volume a.0, volume_name-passes bucket b.0, key_name-passes key b.1)
key_fits (keys.Open volume bucket key n) e =
    let a = split_and _ _ e in
    let b = split_and _ _ a.1 in
    let c = split_and _ _ b.1 in
    (volume_name-passes volume a.0, volume_name-passes bucket b.0, key_name-passes key c.0, number n c.1)
key_fits (keys.Deleted volume bucket owner key local) e =
    let a = split_and _ _ e in
    let b = split_and _ _ a.1 in
    let c = split_and _ _ b.1 in
    let d = split_and _ _ c.1 in
    (volume_name-passes volume a.0, volume_name-passes bucket b.0, below owner (2 ^ 64) c.0, key_name-passes key d.0, within 1 GREATEST_BLOCK_NUMBER local d.1)
key_fits (keys.Snapshot volume bucket n) e =
    let a = split_and _ _ e in
    let b = split_and _ _ a.1 in
    (volume_name-passes volume a.0, volume_name-passes bucket b.0, number n b.1)
key_fits (keys.SnapshotKey volume bucket n key) e =
    let a = split_and _ _ e in
    let b = split_and _ _ a.1 in
    let c = split_and _ _ b.1 in
    (volume_name-passes volume a.0, volume_name-passes bucket b.0, number n c.0, key_name-passes key c.1)
key_fits (keys.Renamed volume bucket owner local) e =
    let a = split_and _ _ e in
    let b = split_and _ _ a.1 in
    let c = split_and _ _ b.1 in
    (volume_name-passes volume a.0, volume_name-passes bucket b.0, below owner (2 ^ 64) c.0, within 1 GREATEST_BLOCK_NUMBER local c.1)
key_fits (keys.Stripe stripe) e = below stripe STRIPES e

abbrev is_value : RowKey → Row → Bool
is_value (keys.Volume volume) values.Volume = true
is_value (keys.Bucket volume bucket) values.Bucket = true
is_value (keys.Key volume bucket key) (values.Key n pieces) = is_number n && are_items is_a_piece IsPiece a_piece pieces
is_value (keys.Open volume bucket key n) (values.Open blocks) = are_items is_a_block IsBlock a_block blocks
is_value (keys.Deleted volume bucket owner key local) (values.Deleted blocks) = are_items is_a_block IsBlock a_block blocks && begins_with local blocks
is_value (keys.Snapshot volume bucket n) (values.Snapshot name previous state) = is_volume_name name && nat_lt previous (2 ^ 64)
is_value (keys.SnapshotKey volume bucket n key) (values.SnapshotKey m pieces) = is_number m && are_items is_a_piece IsPiece a_piece pieces
is_value (keys.Renamed volume bucket owner local) (values.Renamed key) = is_key_name key
is_value (keys.Stripe stripe) (values.Stripe n) = nat_le n MOST_NUMBERS
is_value key row = false

value_fits : (key : RowKey) (row : Row) → is_value key row ≡ true → ValueFits key row
value_fits (keys.Volume volume) values.Volume e = tt
value_fits (keys.Bucket volume bucket) values.Bucket e = tt
value_fits (keys.Key volume bucket key) (values.Key n pieces) e = let a = split_and _ _ e in (number n a.0, items is_a_piece IsPiece a_piece pieces a.1)
value_fits (keys.Open volume bucket key n) (values.Open blocks) e = items is_a_block IsBlock a_block blocks e
value_fits (keys.Deleted volume bucket owner key local) (values.Deleted blocks) e = let a = split_and _ _ e in (items is_a_block IsBlock a_block blocks a.0, begins local blocks a.1)
value_fits (keys.Snapshot volume bucket n) (values.Snapshot name previous state) e = let a = split_and _ _ e in (volume_name-passes name a.0, below previous (2 ^ 64) a.1)
value_fits (keys.SnapshotKey volume bucket n key) (values.SnapshotKey m pieces) e = let a = split_and _ _ e in (number m a.0, items is_a_piece IsPiece a_piece pieces a.1)
value_fits (keys.Renamed volume bucket owner local) (values.Renamed key) e = key_name-passes key e
value_fits (keys.Stripe stripe) (values.Stripe n) e = at_most n MOST_NUMBERS e
value_fits key row e = absurd (false≢true e)

abbrev is_row : RowEntry → Bool
is_row entry = is_key entry.key && is_value entry.key entry.row

all_fit : (entries : List RowEntry) → list_all is_row entries ≡ true → AllByRecursion (λ (entry : RowEntry). RowFits entry.key entry.row) entries
all_fit [] e = tt
all_fit (x ∷ l) e =
    let a = split_and (is_row x) (list_all is_row l) e in
    let b = split_and (is_key x.key) (is_value x.key x.row) a.0 in
    ((key_fits x.key b.0, value_fits x.key x.row b.1), all_fit l a.1)

each_row : list_all is_row rows ≡ true
unfolding rows is_volume_name is_key_name begins_with
each_row = refl

pub rows_fit : AllByRecursion (λ (entry : RowEntry). RowFits entry.key entry.row) rows
rows_fit = all_fit rows each_row
