-- The rows: the rules of their fields, and the one spelling of each.
use Rattle.std.specs.Prelude.{◌≡◌, ℕ, ◌<◌, ◌≤◌, ◌^◌, List, [], ◌∷◌, ◌++◌, length}
use Rattle.std.specs.List.{flat_map, AllByRecursion}
use Rattle.oz_fields.specs.declared.block.TheConstants.{GREATEST_BLOCK_NUMBER, LONGEST_PIECE}
use Rattle.oz_names.specs.declared.limits.TheConstants.{STRIPES, MOST_BLOCKS, MOST_NUMBERS}
use Rattle.oz_fields.specs.declared.block.Block.{Block}
use Rattle.oz_fields.specs.declared.block.Piece.{Piece}
use Rattle.oz_fields.specs.Number.{u8_bytes, u16_bytes, u32_bytes, u64_bytes}
use Rattle.oz_fields.specs.Text.{text_bytes}
use Rattle.oz_names.specs.Names.{IsVolumeName, IsBucketName, IsSnapshotName, IsKeyName}
use Rattle.oz_rows.specs.declared.key.RowKey.{RowKey}
use Rattle.oz_rows.specs.declared.key.RowKey.TheVariants as keys
use Rattle.oz_rows.specs.declared.row.Row.{Row}
use Rattle.oz_rows.specs.declared.row.Row.TheVariants as rows
use Rattle.oz_rows.specs.declared.row.SnapshotState.{SnapshotState}
use Rattle.oz_rows.specs.declared.row.SnapshotState.TheVariants.{Live, Marked}

-- the number of a session or a snapshot
abbrev pub IsNumber : ℕ → Type 0
IsNumber n = (1 ≤ n) × (n < 2 ^ 64)

-- such a number, or 0 for none
abbrev pub IsOwner : ℕ → Type 0
IsOwner n = n < 2 ^ 64

-- the number of a container, or a local id
abbrev pub IsBlockNumber : ℕ → Type 0
IsBlockNumber n = (1 ≤ n) × (n ≤ GREATEST_BLOCK_NUMBER)

abbrev pub IsBlock : Block → Type 0
IsBlock block = IsBlockNumber block.container × IsBlockNumber block.local

abbrev pub IsPiece : Piece → Type 0
IsPiece piece = IsBlock piece.block × (1 ≤ piece.length) × (piece.length ≤ LONGEST_PIECE)

-- no more items than a list may have
abbrev pub AreItems : {A : Type 0} → (A → Type 0) → List A → Type 0
AreItems IsItem items = (length items ≤ MOST_BLOCKS) × AllByRecursion IsItem items

-- the first block has this local id
abbrev pub BeginsWith : ℕ → List Block → Type 0
BeginsWith local [] = ⊥
BeginsWith local (first ∷ others) = first.local ≡ local

-- the rules of the key fields
abbrev pub KeyFits : RowKey → Type 0
KeyFits (keys.Volume volume) = IsVolumeName volume
KeyFits (keys.Bucket volume bucket) = IsVolumeName volume × IsBucketName bucket
KeyFits (keys.Key volume bucket key) = IsVolumeName volume × IsBucketName bucket × IsKeyName key
KeyFits (keys.Open volume bucket key number) = IsVolumeName volume × IsBucketName bucket × IsKeyName key
    × IsNumber number
KeyFits (keys.Deleted volume bucket owner key local) = IsVolumeName volume × IsBucketName bucket × IsOwner owner
    × IsKeyName key × IsBlockNumber local
KeyFits (keys.Snapshot volume bucket number) = IsVolumeName volume × IsBucketName bucket × IsNumber number
KeyFits (keys.SnapshotKey volume bucket snapshot key) = IsVolumeName volume × IsBucketName bucket × IsNumber snapshot
    × IsKeyName key
KeyFits (keys.Renamed volume bucket owner local) = IsVolumeName volume × IsBucketName bucket × IsOwner owner
    × IsBlockNumber local
KeyFits (keys.Stripe stripe) = stripe < STRIPES

-- the kind of the value is that of the key, and the value fields keep their rules
abbrev pub ValueFits : RowKey → Row → Type 0
ValueFits (keys.Volume volume) rows.Volume = Unit {0}
ValueFits (keys.Bucket volume bucket) rows.Bucket = Unit {0}
ValueFits (keys.Key volume bucket key) (rows.Key number pieces) = IsNumber number × AreItems IsPiece pieces
ValueFits (keys.Open volume bucket key number) (rows.Open blocks) = AreItems IsBlock blocks
ValueFits (keys.Deleted volume bucket owner key local) (rows.Deleted blocks) = AreItems IsBlock blocks
    × BeginsWith local blocks
ValueFits (keys.Snapshot volume bucket number) (rows.Snapshot name previous state) = IsSnapshotName name
    × IsOwner previous
ValueFits (keys.SnapshotKey volume bucket snapshot key) (rows.SnapshotKey number pieces) = IsNumber number
    × AreItems IsPiece pieces
ValueFits (keys.Renamed volume bucket owner local) (rows.Renamed key) = IsKeyName key
ValueFits (keys.Stripe stripe) (rows.Stripe number) = number ≤ MOST_NUMBERS
ValueFits key row = ⊥

abbrev pub RowFits : RowKey → Row → Type 0
RowFits key row = KeyFits key × ValueFits key row

-- a count in two bytes, and the items
abbrev pub list_bytes : {A : Type 0} → (A → List ℕ) → List A → List ℕ
list_bytes item_bytes items = u16_bytes (length items) ++ flat_map item_bytes items

abbrev pub block_bytes : Block → List ℕ
block_bytes block = u64_bytes block.container ++ u64_bytes block.local

abbrev pub piece_bytes : Piece → List ℕ
piece_bytes piece = block_bytes piece.block ++ u32_bytes piece.length

abbrev pub state_number : SnapshotState → ℕ
state_number Live = 1
state_number Marked = 2

-- the number of the kind
abbrev pub kind_of : RowKey → ℕ
kind_of (keys.Volume volume) = 1
kind_of (keys.Bucket volume bucket) = 2
kind_of (keys.Key volume bucket key) = 3
kind_of (keys.Open volume bucket key number) = 4
kind_of (keys.Deleted volume bucket owner key local) = 5
kind_of (keys.Snapshot volume bucket number) = 6
kind_of (keys.SnapshotKey volume bucket snapshot key) = 7
kind_of (keys.Renamed volume bucket owner local) = 8
kind_of (keys.Stripe stripe) = 9

-- the kind, and the key fields
abbrev pub key_bytes : RowKey → List ℕ
key_bytes (keys.Volume volume) = u8_bytes 1 ++ text_bytes volume
key_bytes (keys.Bucket volume bucket) = u8_bytes 2 ++ text_bytes volume ++ text_bytes bucket
key_bytes (keys.Key volume bucket key) = u8_bytes 3 ++ text_bytes volume ++ text_bytes bucket ++ text_bytes key
key_bytes (keys.Open volume bucket key number) = u8_bytes 4 ++ text_bytes volume ++ text_bytes bucket ++ text_bytes key
    ++ u64_bytes number
key_bytes (keys.Deleted volume bucket owner key local) = u8_bytes 5 ++ text_bytes volume ++ text_bytes bucket
    ++ u64_bytes owner ++ text_bytes key ++ u64_bytes local
key_bytes (keys.Snapshot volume bucket number) = u8_bytes 6 ++ text_bytes volume ++ text_bytes bucket
    ++ u64_bytes number
key_bytes (keys.SnapshotKey volume bucket snapshot key) = u8_bytes 7 ++ text_bytes volume ++ text_bytes bucket
    ++ u64_bytes snapshot ++ text_bytes key
key_bytes (keys.Renamed volume bucket owner local) = u8_bytes 8 ++ text_bytes volume ++ text_bytes bucket
    ++ u64_bytes owner ++ u64_bytes local
key_bytes (keys.Stripe stripe) = u8_bytes 9 ++ u8_bytes stripe

-- the value fields
abbrev pub value_bytes : Row → List ℕ
value_bytes rows.Volume = []
value_bytes rows.Bucket = []
value_bytes (rows.Key number pieces) = u64_bytes number ++ list_bytes piece_bytes pieces
value_bytes (rows.Open blocks) = list_bytes block_bytes blocks
value_bytes (rows.Deleted blocks) = list_bytes block_bytes blocks
value_bytes (rows.Snapshot name previous state) = text_bytes name ++ u64_bytes previous ++ u8_bytes (state_number state)
value_bytes (rows.SnapshotKey number pieces) = u64_bytes number ++ list_bytes piece_bytes pieces
value_bytes (rows.Renamed key) = text_bytes key
value_bytes (rows.Stripe number) = u64_bytes number

abbrev pub row_bytes : RowKey → Row → List ℕ
row_bytes key row = key_bytes key ++ value_bytes row

-- the bytes are this row
abbrev pub IsRow : List ℕ → RowKey → Row → Type 0
IsRow bytes key row = RowFits key row × (bytes ≡ row_bytes key row)
