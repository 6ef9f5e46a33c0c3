-- For private calls: what the single steps make of rows that were gathered.
use Rattle.std.specs.Prelude.{ℕ, Bool, false, ◌&&◌, ◌==◌, List, [], ◌∷◌, if◌then◌else◌}
use Rattle.std.specs.List.{flat_map, list_any}
use Rattle.std.specs.Ordering.{nat_cmp, ordering_then}
use Rattle.std.specs.declared.cmp.Ordering.{Ordering}
use Rattle.std.specs.BTreeSet.{BTreeSet, contains}
use Rattle.oz_fields.specs.declared.block.Block.{Block}
use Rattle.oz_rows.specs.declared.key.RowKey.{RowKey}
use Rattle.oz_rows.specs.declared.key.RowKey.TheVariants as keys
use Rattle.oz_rows.specs.declared.row.Row.{Row}
use Rattle.oz_rows.specs.declared.row.Row.TheVariants as rows
use Rattle.oz_rows.specs.declared.operation.Change.{Change}
use Rattle.oz_rows.specs.declared.entry.RowEntry.{RowEntry}
use Rattle.oz_rows.specs.RowMaps.{gone, put, is_bucket, is_block}

-- the fields with which the keys of a bucket's rows of a kind begin
abbrev pub in_bucket : ℕ → List ℕ → List ℕ → List (List ℕ)
in_bucket kind volume bucket = (kind ∷ []) ∷ volume ∷ bucket ∷ []

-- the set has the number
abbrev pub has : BTreeSet ℕ → ℕ → Bool
has numbers number = contains nat_cmp numbers number

-- a renamed row of one owner goes to another, unless that one's stays
abbrev pub renamed_moved : (ℕ → Bool) → List ℕ → List ℕ → ℕ → ℕ → ℕ → Row → List Change
renamed_moved is_there volume bucket from to local row =
    gone (keys.Renamed volume bucket from local)
    ∷ (if from == 0 && is_there local then [] else put (keys.Renamed volume bucket to local) row ∷ [])

-- a deleted or renamed row of one owner goes to another, where a test tells which renamed rows that one has
abbrev pub moved_but : (ℕ → Bool) → List ℕ → List ℕ → ℕ → ℕ → RowKey → Row → List Change
moved_but is_there volume bucket from to (keys.Deleted of_volume of_bucket owner key local) row =
    if is_bucket volume bucket of_volume of_bucket && owner == from
    then gone (keys.Deleted volume bucket from key local) ∷ put (keys.Deleted volume bucket to key local) row ∷ []
    else []
moved_but is_there volume bucket from to (keys.Renamed of_volume of_bucket owner local) row =
    if is_bucket volume bucket of_volume of_bucket && owner == from
    then renamed_moved is_there volume bucket from to local row else []
moved_but is_there volume bucket from to key row = []

-- a block that passes a test gets a deleted row of its own
abbrev pub freed_block : (Block → Bool) → List ℕ → List ℕ → List ℕ → Block → List Change
freed_block is_free volume bucket key block =
    if is_free block then put (keys.Deleted volume bucket 0 key block.local) (rows.Deleted (block ∷ [])) ∷ [] else []

-- so does each such block of an open row of the bucket
abbrev pub freed_if : (Block → Bool) → List ℕ → List ℕ → RowKey → Row → List Change
freed_if is_free volume bucket (keys.Open of_volume of_bucket key number) (rows.Open blocks) =
    if is_bucket volume bucket of_volume of_bucket then flat_map (freed_block is_free volume bucket key) blocks else []
freed_if is_free volume bucket key row = []

-- blocks in the order of their containers, and then of their own numbers
abbrev pub block_order : Block → Block → Ordering
block_order a b = ordering_then (nat_cmp a.container b.container) (nat_cmp a.local b.local)

-- the set has the block
abbrev pub holds : BTreeSet Block → Block → Bool
holds blocks block = contains block_order blocks block

-- an open row's value has the block
abbrev pub has_open_block : Block → Row → Bool
has_open_block block (rows.Open blocks) = list_any (is_block block) blocks
has_open_block block row = false

abbrev pub is_in_a_session : List RowEntry → Block → Bool
is_in_a_session sessions block = list_any (λ (entry : RowEntry). has_open_block block entry.row) sessions
