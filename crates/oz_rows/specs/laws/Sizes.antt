-- How long rows and operations are at most.
use Rattle.std.proofs.Common.{◌≡◌, ℕ, ◌<◌, ◌≤◌, ◌+◌, ◌*◌, ◌^◌, List, [], ◌∷◌, ◌++◌, length, refl, ap, arith}
use Rattle.std.specs.List.{flat_map, AllByRecursion}
use Rattle.std.proofs.lemmas.List.{length-append}
use Rattle.std.proofs.lemmas.List.Concat.{flat_map-cons}
use Rattle.oz_fields.specs.declared.block.Block.{Block}
use Rattle.oz_fields.specs.declared.block.Piece.{Piece}
use Rattle.oz_fields.specs.Number.{u16_bytes, u32_bytes, u64_bytes}
use Rattle.oz_fields.specs.Text.{text_bytes}
use Rattle.oz_rows.specs.declared.key.RowKey.{RowKey}
use Rattle.oz_rows.specs.declared.key.RowKey.TheVariants as keys
use Rattle.oz_rows.specs.declared.row.Row.{Row}
use Rattle.oz_rows.specs.declared.row.Row.TheVariants as rows
use Rattle.oz_rows.specs.declared.operation.Operation.{Operation}
use Rattle.oz_rows.specs.declared.operation.Operation.TheVariants.{Put, Remove, CopyKeys, MoveDeleted, DropKeys}
use Rattle.oz_rows.specs.declared.operation.Operation.TheVariants.{DropOpen}
use Rattle.oz_rows.specs.Rows.{KeyFits, ValueFits, list_bytes, block_bytes, piece_bytes, key_bytes, value_bytes}
use Rattle.oz_rows.specs.Operations.{OperationFits, operation_bytes}

length-u16 : (n : ℕ) → length (u16_bytes n) ≡ 2
unfolding u16_bytes
length-u16 n = refl

length-u32 : (n : ℕ) → length (u32_bytes n) ≡ 4
unfolding u32_bytes
length-u32 n = refl

length-u64 : (n : ℕ) → length (u64_bytes n) ≡ 8
unfolding u64_bytes
length-u64 n = refl

length-text : (text : List ℕ) → length (text_bytes text) ≡ 2 + length text
unfolding text_bytes
length-text text = omega (arith, length-append (u16_bytes (length text)) text, length-u16 (length text))

length-items : {A : Type 0} (item_bytes : A → List ℕ) (most : ℕ) (items : List A) → ((item : A) → length (item_bytes item) ≤ most)
    → length (flat_map item_bytes items) ≤ length items * most
length-items item_bytes most [] each = omega arith
length-items item_bytes most (item ∷ items) each =
    rw (flat_map-cons item_bytes item items)
    (omega (arith, length-append (item_bytes item) (flat_map item_bytes items), each item, length-items item_bytes most items each))

length-block : (block : Block) → length (block_bytes block) ≤ 16
length-block block = omega (arith, length-append (u64_bytes block.container) (u64_bytes block.local), length-u64 block.container, length-u64 block.local)

length-piece : (piece : Piece) → length (piece_bytes piece) ≤ 20
length-piece piece = omega (arith, length-append (block_bytes piece.block) (u32_bytes piece.length), length-block piece.block, length-u32 piece.length)

length-list : {A : Type 0} (item_bytes : A → List ℕ) (most : ℕ) (items : List A) → ((item : A) → length (item_bytes item) ≤ most)
    → length (list_bytes item_bytes items) ≤ 2 + length items * most
length-list item_bytes most items each =
    omega (arith, length-append (u16_bytes (length items)) (flat_map item_bytes items), length-u16 (length items), length-items item_bytes most items each)

pub key_size : (key : RowKey) → KeyFits key → length (key_bytes key) ≤ 1173
key_size (keys.Volume volume) fits = let a = fits.short_enough in simp length-text (omega arith)
key_size (keys.Bucket volume bucket) fits = let a = fits.0.short_enough in let b = fits.1.short_enough in simp (length-append, length-text) (omega arith)
key_size (keys.Key volume bucket key) fits = let a = fits.0.short_enough in let b = fits.1.short_enough in let k =
    fits.2.short_enough in simp (length-append, length-text) (omega arith)
key_size (keys.Open volume bucket key number) fits = let a = fits.0.short_enough in let b = fits.1.short_enough in let k =
    fits.2.short_enough in simp (length-append, length-text, length-u64) (omega arith)
key_size (keys.Deleted volume bucket owner key local) fits = let a = fits.0.short_enough in let b = fits.1.short_enough in let k =
    fits.3.short_enough in simp (length-append, length-text, length-u64) (omega arith)
key_size (keys.Snapshot volume bucket number) fits = let a = fits.0.short_enough in let b =
    fits.1.short_enough in simp (length-append, length-text, length-u64) (omega arith)
key_size (keys.SnapshotKey volume bucket snapshot key) fits = let a = fits.0.short_enough in let b = fits.1.short_enough in let k =
    fits.3.short_enough in simp (length-append, length-text, length-u64) (omega arith)
key_size (keys.Renamed volume bucket owner local) fits = let a = fits.0.short_enough in let b =
    fits.1.short_enough in simp (length-append, length-text, length-u64) (omega arith)
key_size (keys.Stripe stripe) fits = omega arith

pieces_size : (number : ℕ) (pieces : List Piece) → length pieces ≤ 256 → length (u64_bytes number ++ list_bytes piece_bytes pieces) ≤ 5130
pieces_size number pieces few =
    let list = length-list piece_bytes 20 pieces length-piece in
    omega (arith, length-append (u64_bytes number) (list_bytes piece_bytes pieces), length-u64 number)

blocks_size : (blocks : List Block) → length blocks ≤ 256 → length (list_bytes block_bytes blocks) ≤ 5130
blocks_size blocks few =
    let list = length-list block_bytes 16 blocks length-block in
    omega arith

value_size : (key : RowKey) (row : Row) → ValueFits key row → length (value_bytes row) ≤ 5130
value_size (keys.Volume a) rows.Volume fits = omega arith
value_size (keys.Bucket a b) rows.Bucket fits = omega arith
value_size (keys.Key a b k) (rows.Key number pieces) fits = pieces_size number pieces fits.1.0
value_size (keys.Open a b k n) (rows.Open blocks) fits = blocks_size blocks fits.0
value_size (keys.Deleted a b o k l) (rows.Deleted blocks) fits = blocks_size blocks fits.0.0
value_size (keys.Snapshot a b n) (rows.Snapshot name previous state) fits = let s =
    fits.0.short_enough in simp (length-append, length-text, length-u64) (omega arith)
value_size (keys.SnapshotKey a b s k) (rows.SnapshotKey number pieces) fits = pieces_size number pieces fits.1.0
value_size (keys.Renamed a b o l) (rows.Renamed key) fits = let s = fits.short_enough in omega (arith, length-text key)
value_size (keys.Stripe s) (rows.Stripe number) fits = omega (arith, length-u64 number)
value_size key row fits = absurd fits

pub operation_size : (operation : Operation) → OperationFits operation → length (operation_bytes operation) ≤ 6304
operation_size (Put key row) fits = omega (arith, length-append (key_bytes key) (value_bytes row), key_size key fits.0, value_size key row fits.1)
operation_size (Remove key) fits = omega (arith, key_size key fits)
operation_size (CopyKeys volume bucket number) fits = let a = fits.0.short_enough in let b =
    fits.1.short_enough in simp (length-append, length-text, length-u64) (omega arith)
operation_size (MoveDeleted volume bucket from to) fits = let a = fits.0.short_enough in let b =
    fits.1.short_enough in simp (length-append, length-text, length-u64) (omega arith)
operation_size (DropKeys volume bucket number) fits = let a = fits.0.short_enough in let b =
    fits.1.short_enough in simp (length-append, length-text, length-u64) (omega arith)
operation_size (DropOpen volume bucket) fits = let a = fits.0.short_enough in let b = fits.1.short_enough in simp (length-append, length-text) (omega arith)

abbrev pub removal : RowKey → List ℕ
removal key = 2 ∷ key_bytes key

removals_size : (rows : List RowKey) → AllByRecursion KeyFits rows → length (flat_map removal rows) ≤ length rows * 1174
removals_size [] fits = omega arith
removals_size (key ∷ rows) fits =
    omega (
      arith,
      ap length (flat_map-cons removal key rows),
      length-append (removal key) (flat_map removal rows),
      key_size key fits.0,
      removals_size rows fits.1,
    )

pub purge_size : (rows : List RowKey) → AllByRecursion KeyFits rows → length rows ≤ 1024 → length (flat_map removal rows) < 2 ^ 21
purge_size rows fits few = omega (arith, removals_size rows fits)
