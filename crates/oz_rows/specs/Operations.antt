-- The operations of a body: their rules, and the one spelling of each.
use Rattle.std.specs.Prelude.{◌≡◌, ℕ, ◌<◌, ◌≤◌, ◌^◌, List, ◌++◌}
use Rattle.std.specs.List.{flat_map, AllByRecursion}
use Rattle.oz_rows.specs.declared.operation.TheConstants.{LAYOUT, END_OF_INDEXES}
use Rattle.oz_fields.specs.Number.{u8_bytes, u64_bytes}
use Rattle.oz_fields.specs.Text.{text_bytes}
use Rattle.oz_names.specs.Names.{IsVolumeName, IsBucketName}
use Rattle.oz_rows.specs.declared.operation.Operation.{Operation}
use Rattle.oz_rows.specs.declared.operation.Operation.TheVariants.{Put, Remove, CopyKeys, MoveDeleted, DropKeys}
use Rattle.oz_rows.specs.declared.operation.Operation.TheVariants.{DropOpen}
use Rattle.oz_rows.specs.declared.operation.Head.{Head}
use Rattle.oz_rows.specs.declared.operation.Operations.{Operations}
use Rattle.oz_rows.specs.Rows.{IsNumber, IsOwner, KeyFits, RowFits, key_bytes, row_bytes}

abbrev pub OperationFits : Operation → Type 0
OperationFits (Put key row) = RowFits key row
OperationFits (Remove key) = KeyFits key
OperationFits (CopyKeys volume bucket number) = IsVolumeName volume × IsBucketName bucket × IsNumber number
OperationFits (MoveDeleted volume bucket from to) = IsVolumeName volume × IsBucketName bucket × IsOwner from
    × IsOwner to
OperationFits (DropKeys volume bucket number) = IsVolumeName volume × IsBucketName bucket × IsNumber number
OperationFits (DropOpen volume bucket) = IsVolumeName volume × IsBucketName bucket

abbrev pub operation_bytes : Operation → List ℕ
operation_bytes (Put key row) = u8_bytes 1 ++ row_bytes key row
operation_bytes (Remove key) = u8_bytes 2 ++ key_bytes key
operation_bytes (CopyKeys volume bucket number) = u8_bytes 3 ++ text_bytes volume ++ text_bytes bucket
    ++ u64_bytes number
operation_bytes (MoveDeleted volume bucket from to) = u8_bytes 4 ++ text_bytes volume ++ text_bytes bucket
    ++ u64_bytes from ++ u64_bytes to
operation_bytes (DropKeys volume bucket number) = u8_bytes 5 ++ text_bytes volume ++ text_bytes bucket
    ++ u64_bytes number
operation_bytes (DropOpen volume bucket) = u8_bytes 6 ++ text_bytes volume ++ text_bytes bucket

-- operations in a row
abbrev pub AreOperations : List Operation → Type 0
AreOperations operations = AllByRecursion OperationFits operations

abbrev pub batch_bytes : List Operation → List ℕ
batch_bytes operations = flat_map operation_bytes operations

-- the last transaction index of a body
abbrev pub IsIndex : ℕ → Type 0
IsIndex index = (1 ≤ index) × (index < END_OF_INDEXES)

-- the layout of all bodies so far, and such an index
abbrev pub IsHead : Head → Type 0
IsHead head = (head.layout ≡ LAYOUT) × IsIndex head.index

abbrev pub head_bytes : Head → List ℕ
head_bytes head = u8_bytes head.layout ++ u64_bytes head.index

-- the head with which a body is written
abbrev pub new_head : ℕ → Head
new_head index = record { layout = LAYOUT; index = index }

-- what the body begins with
abbrev pub head_in : Operations → Head
head_in body = record { layout = body.layout; index = body.index }

-- the bytes are this body
abbrev pub IsBody : List ℕ → Operations → Type 0
IsBody bytes body = IsHead (head_in body) × AreOperations body.items
    × (bytes ≡ head_bytes (head_in body) ++ batch_bytes body.items)
