-- What the operations of a body change among the rows.
use Rattle.std.specs.Prelude.{◌≡◌, ℕ, Bool, false, not, ◌&&◌, ◌==◌, List, [], ◌∷◌, ◌++◌, map, filter}
use Rattle.std.specs.Prelude.{IsSome, is_some, if◌then◌else◌}
use Rattle.std.specs.List.{flat_map, list_any}
use Rattle.oz_fields.specs.declared.block.Block.{Block}
use Rattle.oz_fields.specs.declared.block.Piece.{Piece}
use Rattle.oz_rows.specs.declared.key.RowKey.{RowKey}
use Rattle.oz_rows.specs.declared.key.RowKey.TheVariants as keys
use Rattle.oz_rows.specs.declared.row.Row.{Row}
use Rattle.oz_rows.specs.declared.row.Row.TheVariants as rows
use Rattle.oz_rows.specs.declared.operation.Change.{Change}
use Rattle.oz_rows.specs.declared.operation.Operation.{Operation}
use Rattle.oz_rows.specs.declared.operation.Operation.TheVariants.{Put, Remove, CopyKeys, MoveDeleted, DropKeys}
use Rattle.oz_rows.specs.declared.operation.Operation.TheVariants.{DropOpen}
use Rattle.oz_rows.specs.declared.entry.RowEntry.{RowEntry}
use Rattle.oz_rows.specs.RowMaps.{row_of, is_bucket, is_block, put, gone, Becomes}

-- a key row of the bucket, as the snapshot of this number keeps it
abbrev pub copied : List ℕ → List ℕ → ℕ → RowKey → Row → List Change
copied volume bucket number (keys.Key of_volume of_bucket key) (rows.Key made pieces) =
    if is_bucket volume bucket of_volume of_bucket
    then put (keys.SnapshotKey volume bucket number key) (rows.SnapshotKey made pieces) ∷ [] else []
copied volume bucket number key row = []

-- A deleted or renamed row of one owner goes to another. Of two renamed rows for one block that of the first owner
-- stays, or that of the second where the first is 0.
abbrev pub moved : List RowEntry → List ℕ → List ℕ → ℕ → ℕ → RowKey → Row → List Change
moved all volume bucket from to (keys.Deleted of_volume of_bucket owner key local) row =
    if is_bucket volume bucket of_volume of_bucket && owner == from
    then gone (keys.Deleted volume bucket from key local) ∷ put (keys.Deleted volume bucket to key local) row ∷ []
    else []
moved all volume bucket from to (keys.Renamed of_volume of_bucket owner local) row =
    if is_bucket volume bucket of_volume of_bucket && owner == from
    then gone (keys.Renamed volume bucket from local)
    ∷ (if from == 0 && is_some (row_of all (keys.Renamed volume bucket to local)) then []
    else put (keys.Renamed volume bucket to local) row ∷ [])
    else []
moved all volume bucket from to key row = []

-- a snapshot key row of this number goes
abbrev pub dropped : List ℕ → List ℕ → ℕ → RowKey → List Change
dropped volume bucket number (keys.SnapshotKey of_volume of_bucket snapshot key) =
    if is_bucket volume bucket of_volume of_bucket && snapshot == number
    then gone (keys.SnapshotKey volume bucket number key) ∷ [] else []
dropped volume bucket number (keys.Volume of_volume) = []
dropped volume bucket number (keys.Bucket of_volume of_bucket) = []
dropped volume bucket number (keys.Key of_volume of_bucket key) = []
dropped volume bucket number (keys.Open of_volume of_bucket key of_number) = []
dropped volume bucket number (keys.Deleted of_volume of_bucket owner key local) = []
dropped volume bucket number (keys.Snapshot of_volume of_bucket of_number) = []
dropped volume bucket number (keys.Renamed of_volume of_bucket owner local) = []
dropped volume bucket number (keys.Stripe stripe) = []

-- an open row of the bucket goes
abbrev pub closed : List ℕ → List ℕ → RowKey → List Change
closed volume bucket (keys.Open of_volume of_bucket key number) =
    if is_bucket volume bucket of_volume of_bucket then gone (keys.Open volume bucket key number) ∷ [] else []
closed volume bucket (keys.Volume of_volume) = []
closed volume bucket (keys.Bucket of_volume of_bucket) = []
closed volume bucket (keys.Key of_volume of_bucket key) = []
closed volume bucket (keys.Deleted of_volume of_bucket owner key local) = []
closed volume bucket (keys.Snapshot of_volume of_bucket number) = []
closed volume bucket (keys.SnapshotKey of_volume of_bucket snapshot key) = []
closed volume bucket (keys.Renamed of_volume of_bucket owner local) = []
closed volume bucket (keys.Stripe stripe) = []

-- a key row has the block
abbrev pub has_block : Block → RowKey → Row → Bool
has_block block (keys.Key volume bucket key) (rows.Key made pieces) =
    list_any (λ (piece : Piece). is_block block piece.block) pieces
has_block block key row = false

abbrev pub is_in_a_key : List RowEntry → Block → Bool
is_in_a_key all block = list_any (λ (entry : RowEntry). has_block block entry.key entry.row) all

-- each block of an open row of the bucket that stands in no key row gets a deleted row of its own
abbrev pub freed : List RowEntry → List ℕ → List ℕ → RowKey → Row → List Change
freed all volume bucket (keys.Open of_volume of_bucket key number) (rows.Open blocks) =
    if is_bucket volume bucket of_volume of_bucket
    then map (λ (block : Block). put (keys.Deleted volume bucket 0 key block.local) (rows.Deleted (block ∷ [])))
    (filter (λ block. not (is_in_a_key all block)) blocks)
    else []
freed all volume bucket key row = []

-- what an operation changes among these rows, the first change first
abbrev pub operation_changes : List RowEntry → Operation → List Change
operation_changes all (Put key row) = put key row ∷ []
operation_changes all (Remove key) = gone key ∷ []
operation_changes all (CopyKeys volume bucket number) =
    flat_map (λ (entry : RowEntry). copied volume bucket number entry.key entry.row) all
operation_changes all (MoveDeleted volume bucket from to) =
    if from == to then [] else flat_map (λ (entry : RowEntry). moved all volume bucket from to entry.key entry.row) all
operation_changes all (DropKeys volume bucket number) =
    flat_map (λ (entry : RowEntry). dropped volume bucket number entry.key) all
operation_changes all (DropOpen volume bucket) =
    flat_map (λ (entry : RowEntry). closed volume bucket entry.key) all
    ++ flat_map (λ (entry : RowEntry). freed all volume bucket entry.key entry.row) all

-- a row that is removed is there
abbrev pub IsPossible : List RowEntry → Operation → Type 0
IsPossible all (Remove key) = IsSome (row_of all key)
IsPossible all operation = Unit {0}

-- operations lead from rows to rows
unfoldable pub Leads : List RowEntry → List Operation → List RowEntry → Type 0
Leads before [] after = after ≡ before
Leads before (operation ∷ operations) after =
    (between : List RowEntry) × IsPossible before operation
    × Becomes before (operation_changes before operation) between × Leads between operations after
