-- Reading from left to right. What is read has a value and the bytes behind it. What isn't says how many bytes are left
-- from the first field on that passes their end or breaks a rule.
use Rattle.std.specs.Prelude.{◌≡◌, ℕ, zero, suc, ◌-◌, ◌^◌, Bool, true, ◌&&◌, ◌||◌, ◌==◌, nat_lt, nat_le, List, [], ◌∷◌}
use Rattle.std.specs.Prelude.{◌++◌, length, Option, None, Some, Result, Ok, Err, if◌then◌else◌}
use Rattle.oz_fields.specs.declared.block.TheConstants.{GREATEST_BLOCK_NUMBER, LONGEST_PIECE}
use Rattle.oz_names.specs.declared.limits.TheConstants.{STRIPES, MOST_BLOCKS, MOST_NUMBERS}
use Rattle.oz_rows.specs.declared.operation.TheConstants.{LAYOUT, END_OF_INDEXES}
use Rattle.oz_fields.specs.declared.block.Block.{Block}
use Rattle.oz_fields.specs.declared.block.Piece.{Piece}
use Rattle.oz_fields.specs.Number.{u8_at, u16_at, u32_at, u64_at}
use Rattle.oz_fields.specs.Text.{text_at}
use Rattle.oz_names.specs.Names.{is_volume_name, is_key_name}
use Rattle.oz_rows.specs.declared.key.RowKey.{RowKey}
use Rattle.oz_rows.specs.declared.key.RowKey.TheVariants as keys
use Rattle.oz_rows.specs.declared.row.Row.{Row}
use Rattle.oz_rows.specs.declared.row.Row.TheVariants as rows
use Rattle.oz_rows.specs.declared.row.SnapshotState.{SnapshotState}
use Rattle.oz_rows.specs.declared.row.SnapshotState.TheVariants.{Live, Marked}
use Rattle.oz_rows.specs.declared.operation.Head.{Head}
use Rattle.oz_rows.specs.declared.operation.Operation.{Operation}
use Rattle.oz_rows.specs.declared.operation.Operation.TheVariants.{Put, Remove, CopyKeys, MoveDeleted, DropKeys}
use Rattle.oz_rows.specs.declared.operation.Operation.TheVariants.{DropOpen}
use Rattle.oz_rows.specs.declared.fault.ReadFault.{ReadFault}
use Rattle.oz_rows.specs.declared.fault.ReadFault.TheVariants as faults

abbrev pub goes_on : {A B : Type 0} → Result (A × List ℕ) ℕ → (A → List ℕ → Result (B × List ℕ) ℕ)
    → Result (B × List ℕ) ℕ
goes_on (Ok found) next = next found.0 found.1
goes_on (Err left) next = Err left

-- one after the other
infixl 10 ◌>>=◌
abbrev pub ◌>>=◌ : {A B : Type 0} → (List ℕ → Result (A × List ℕ) ℕ) → (A → List ℕ → Result (B × List ℕ) ℕ) → List ℕ
    → Result (B × List ℕ) ℕ
(read >>= next) bytes = goes_on (read bytes) next

-- nothing more is read
abbrev pub done : {A : Type 0} → A → List ℕ → Result (A × List ℕ) ℕ
done value bytes = Ok (value, bytes)

abbrev pub kept : {A : Type 0} → (A → Bool) → ℕ → Option (A × List ℕ) → Result (A × List ℕ) ℕ
kept rule left None = Err left
kept rule left (Some found) = if rule found.0 then Ok found else Err left

-- a field that is there and keeps its rule
abbrev pub field : {A : Type 0} → (List ℕ → Option (A × List ℕ)) → (A → Bool) → List ℕ → Result (A × List ℕ) ℕ
field read rule bytes = kept rule (length bytes) (read bytes)

unfoldable pub volume_name_at : List ℕ → Result (List ℕ × List ℕ) ℕ
volume_name_at bytes = field text_at is_volume_name bytes

unfoldable pub key_name_at : List ℕ → Result (List ℕ × List ℕ) ℕ
key_name_at bytes = field text_at is_key_name bytes

unfoldable pub owner_at : List ℕ → Result (ℕ × List ℕ) ℕ
owner_at bytes = field u64_at (λ n. true) bytes

unfoldable pub number_at : List ℕ → Result (ℕ × List ℕ) ℕ
number_at bytes = field u64_at (λ n. nat_le 1 n) bytes

abbrev pub is_block_number : ℕ → Bool
is_block_number n = nat_le 1 n && nat_le n GREATEST_BLOCK_NUMBER

unfoldable pub block_number_at : List ℕ → Result (ℕ × List ℕ) ℕ
block_number_at bytes = field u64_at is_block_number bytes

-- the local id that was given, again
unfoldable pub same_local_at : ℕ → List ℕ → Result (ℕ × List ℕ) ℕ
same_local_at local bytes = field u64_at (λ n. is_block_number n && n == local) bytes

unfoldable pub drawn_at : List ℕ → Result (ℕ × List ℕ) ℕ
drawn_at bytes = field u64_at (λ n. nat_le n MOST_NUMBERS) bytes

unfoldable pub length_at : List ℕ → Result (ℕ × List ℕ) ℕ
length_at bytes = field u32_at (λ n. nat_le 1 n && nat_le n LONGEST_PIECE) bytes

unfoldable pub stripe_at : List ℕ → Result (ℕ × List ℕ) ℕ
stripe_at bytes = field u8_at (λ n. nat_lt n STRIPES) bytes

unfoldable pub state_at : List ℕ → Result (SnapshotState × List ℕ) ℕ
state_at = do
  number ← field u8_at (λ n. n == 1 || n == 2)
  done (if number == 1 then Live else Marked)

-- at least so many items
unfoldable pub count_at : ℕ → List ℕ → Result (ℕ × List ℕ) ℕ
count_at least bytes = field u16_at (λ n. nat_le least n && nat_le n MOST_BLOCKS) bytes

unfoldable pub block_at : List ℕ → Result (Block × List ℕ) ℕ
block_at = do
  container ← block_number_at
  local ← block_number_at
  done (record { container = container; local = local })

unfoldable pub piece_at : List ℕ → Result (Piece × List ℕ) ℕ
piece_at = do
  block ← block_at
  size ← length_at
  done (record { block = block; length = size })

-- so many items
unfoldable pub items_at : {A : Type 0} → (List ℕ → Result (A × List ℕ) ℕ) → ℕ → List ℕ → Result (List A × List ℕ) ℕ
items_at item zero = done []
items_at item (suc count) = do
  first ← item
  others ← items_at item count
  done (first ∷ others)

-- items behind those that were read before
abbrev pub with_front : {A : Type 0} → List A → (List ℕ → Result (List A × List ℕ) ℕ) → List ℕ
    → Result (List A × List ℕ) ℕ
with_front front read = do
  others ← read
  done (front ++ others)

unfoldable pub list_at : {A : Type 0} → (List ℕ → Result (A × List ℕ) ℕ) → List ℕ → Result (List A × List ℕ) ℕ
list_at item = do
  count ← count_at 0
  items_at item count

-- blocks of which there is one, and the first has this local id
unfoldable pub deleted_blocks_at : ℕ → List ℕ → Result (List Block × List ℕ) ℕ
deleted_blocks_at local = do
  count ← count_at 1
  container ← block_number_at
  own ← same_local_at local
  others ← items_at block_at (count - 1)
  done (record { container = container; local = own } ∷ others)

unfoldable pub volume_key_at : List ℕ → Result (RowKey × List ℕ) ℕ
volume_key_at = do
  volume ← volume_name_at
  done (keys.Volume volume)

unfoldable pub bucket_key_at : List ℕ → Result (RowKey × List ℕ) ℕ
bucket_key_at = do
  volume ← volume_name_at
  bucket ← volume_name_at
  done (keys.Bucket volume bucket)

unfoldable pub key_key_at : List ℕ → Result (RowKey × List ℕ) ℕ
key_key_at = do
  volume ← volume_name_at
  bucket ← volume_name_at
  key ← key_name_at
  done (keys.Key volume bucket key)

unfoldable pub open_key_at : List ℕ → Result (RowKey × List ℕ) ℕ
open_key_at = do
  volume ← volume_name_at
  bucket ← volume_name_at
  key ← key_name_at
  number ← number_at
  done (keys.Open volume bucket key number)

unfoldable pub deleted_key_at : List ℕ → Result (RowKey × List ℕ) ℕ
deleted_key_at = do
  volume ← volume_name_at
  bucket ← volume_name_at
  owner ← owner_at
  key ← key_name_at
  local ← block_number_at
  done (keys.Deleted volume bucket owner key local)

unfoldable pub snapshot_at : List ℕ → Result (RowKey × List ℕ) ℕ
snapshot_at = do
  volume ← volume_name_at
  bucket ← volume_name_at
  number ← number_at
  done (keys.Snapshot volume bucket number)

unfoldable pub snapshot_key_at : List ℕ → Result (RowKey × List ℕ) ℕ
snapshot_key_at = do
  volume ← volume_name_at
  bucket ← volume_name_at
  snapshot ← number_at
  key ← key_name_at
  done (keys.SnapshotKey volume bucket snapshot key)

unfoldable pub renamed_key_at : List ℕ → Result (RowKey × List ℕ) ℕ
renamed_key_at = do
  volume ← volume_name_at
  bucket ← volume_name_at
  owner ← owner_at
  local ← block_number_at
  done (keys.Renamed volume bucket owner local)

unfoldable pub stripe_key_at : List ℕ → Result (RowKey × List ℕ) ℕ
stripe_key_at = do
  stripe ← stripe_at
  done (keys.Stripe stripe)

-- the key fields of a kind, nothing where there is no such kind
abbrev pub key_of_kind_at : ℕ → ℕ → List ℕ → Result (RowKey × List ℕ) ℕ
key_of_kind_at left kind =
    if kind == 1 then volume_key_at else
    (if kind == 2 then bucket_key_at else (if kind == 3 then key_key_at else
    (if kind == 4 then open_key_at else (if kind == 5 then deleted_key_at else
    (if kind == 6 then snapshot_at else (if kind == 7 then snapshot_key_at else
    (if kind == 8 then renamed_key_at else (if kind == 9 then stripe_key_at else (λ bytes. Err left)))))))))

unfoldable pub key_at : List ℕ → Result (RowKey × List ℕ) ℕ
key_at [] = Err 0
key_at (kind ∷ bytes) = key_of_kind_at (suc (length bytes)) kind bytes

unfoldable pub key_value_at : List ℕ → Result (Row × List ℕ) ℕ
key_value_at = do
  number ← number_at
  pieces ← list_at piece_at
  done (rows.Key number pieces)

unfoldable pub open_value_at : List ℕ → Result (Row × List ℕ) ℕ
open_value_at = do
  blocks ← list_at block_at
  done (rows.Open blocks)

unfoldable pub deleted_value_at : ℕ → List ℕ → Result (Row × List ℕ) ℕ
deleted_value_at local = do
  blocks ← deleted_blocks_at local
  done (rows.Deleted blocks)

unfoldable pub snapshot_value_at : List ℕ → Result (Row × List ℕ) ℕ
snapshot_value_at = do
  name ← volume_name_at
  previous ← owner_at
  state ← state_at
  done (rows.Snapshot name previous state)

unfoldable pub snapshot_key_value_at : List ℕ → Result (Row × List ℕ) ℕ
snapshot_key_value_at = do
  number ← number_at
  pieces ← list_at piece_at
  done (rows.SnapshotKey number pieces)

unfoldable pub renamed_value_at : List ℕ → Result (Row × List ℕ) ℕ
renamed_value_at = do
  key ← key_name_at
  done (rows.Renamed key)

unfoldable pub stripe_value_at : List ℕ → Result (Row × List ℕ) ℕ
stripe_value_at = do
  number ← drawn_at
  done (rows.Stripe number)

-- the value fields of the kind that the key has
unfoldable pub value_at : RowKey → List ℕ → Result (Row × List ℕ) ℕ
value_at (keys.Volume volume) = done rows.Volume
value_at (keys.Bucket volume bucket) = done rows.Bucket
value_at (keys.Key volume bucket key) = key_value_at
value_at (keys.Open volume bucket key number) = open_value_at
value_at (keys.Deleted volume bucket owner key local) = deleted_value_at local
value_at (keys.Snapshot volume bucket number) = snapshot_value_at
value_at (keys.SnapshotKey volume bucket snapshot key) = snapshot_key_value_at
value_at (keys.Renamed volume bucket owner local) = renamed_value_at
value_at (keys.Stripe stripe) = stripe_value_at

unfoldable pub row_at : List ℕ → Result ((RowKey × Row) × List ℕ) ℕ
row_at = do
  key ← key_at
  row ← value_at key
  done (key, row)

unfoldable pub put_at : List ℕ → Result (Operation × List ℕ) ℕ
put_at = do
  row ← row_at
  done (Put row.0 row.1)

unfoldable pub remove_at : List ℕ → Result (Operation × List ℕ) ℕ
remove_at = do
  key ← key_at
  done (Remove key)

unfoldable pub copy_keys_at : List ℕ → Result (Operation × List ℕ) ℕ
copy_keys_at = do
  volume ← volume_name_at
  bucket ← volume_name_at
  number ← number_at
  done (CopyKeys volume bucket number)

unfoldable pub move_deleted_at : List ℕ → Result (Operation × List ℕ) ℕ
move_deleted_at = do
  volume ← volume_name_at
  bucket ← volume_name_at
  from ← owner_at
  to ← owner_at
  done (MoveDeleted volume bucket from to)

unfoldable pub drop_keys_at : List ℕ → Result (Operation × List ℕ) ℕ
drop_keys_at = do
  volume ← volume_name_at
  bucket ← volume_name_at
  number ← number_at
  done (DropKeys volume bucket number)

unfoldable pub drop_open_at : List ℕ → Result (Operation × List ℕ) ℕ
drop_open_at = do
  volume ← volume_name_at
  bucket ← volume_name_at
  done (DropOpen volume bucket)

-- the fields of an operation, nothing where there is no such operation
abbrev pub operation_of_tag_at : ℕ → ℕ → List ℕ → Result (Operation × List ℕ) ℕ
operation_of_tag_at left tag =
    if tag == 1 then put_at else
    (if tag == 2 then remove_at else (if tag == 3 then copy_keys_at else
    (if tag == 4 then move_deleted_at else (if tag == 5 then drop_keys_at else (if tag == 6 then drop_open_at else (λ bytes. Err left))))))

unfoldable pub operation_at : List ℕ → Result (Operation × List ℕ) ℕ
operation_at [] = Err 0
operation_at (tag ∷ bytes) = operation_of_tag_at (suc (length bytes)) tag bytes

unfoldable pub index_at : List ℕ → Result (ℕ × List ℕ) ℕ
index_at bytes = field u64_at (λ n. nat_le 1 n && nat_lt n END_OF_INDEXES) bytes

-- the head of a body: the layout, and the last transaction index
unfoldable pub head_at : List ℕ → Result (Head × List ℕ) ℕ
head_at = do
  layout ← field u8_at (λ n. n == LAYOUT)
  index ← index_at
  done (record { layout = layout; index = index })

-- What a call gave, seen by view, is what reading gives, unless memory ran out.
abbrev pub ReadFails : {Y : Type 0} → ReadFault → Result Y ℕ → Type 0
ReadFails faults.OutOfMemory read = Unit {0}
ReadFails (faults.Left left) read = read ≡ Err left

abbrev pub ReadGives : {X Y : Type 0} → (X → Y) → Result X ReadFault → Result Y ℕ → Type 0
ReadGives view (Ok x) read = read ≡ Ok (view x)
ReadGives view (Err fault) read = ReadFails fault read
