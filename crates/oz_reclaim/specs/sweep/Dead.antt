-- Which deleted rows no live snapshot has.
use Rattle.std.specs.Prelude.{◌≡◌, [], ◌∷◌, List, Option, None, Some}
use Rattle.std.specs.List.{AllByRecursion}
use Rattle.oz_fields.specs.declared.block.Block.{Block}
use Rattle.oz_reclaim.specs.sweep.Kept.{IsKept}
use Rattle.oz_rows.specs.declared.key.RowKey.{RowKey}
use Rattle.oz_rows.specs.declared.key.RowKey.TheVariants as keys
use Rattle.oz_rows.specs.declared.operation.Change.{Change}
use Rattle.oz_rows.specs.declared.row.Row.{Row}
use Rattle.oz_rows.specs.declared.row.Row.TheVariants as rows
use Rattle.oz_rows.specs.RowMaps.{Rows}

-- the first block of a deleted row
abbrev pub first_of : Row → Option Block
first_of (rows.Deleted []) = None
first_of (rows.Deleted (first ∷ others)) = Some first
first_of rows.Volume = None
first_of rows.Bucket = None
first_of (rows.Key number pieces) = None
first_of (rows.Open blocks) = None
first_of (rows.Snapshot name previous state) = None
first_of (rows.SnapshotKey number pieces) = None
first_of (rows.Renamed key) = None
first_of (rows.Stripe number) = None

-- No live snapshot of the bucket has the first block of the deleted row. Over sound rows none has any other one either.
abbrev pub IsDead : Rows → RowKey → Row → Type 0
IsDead all (keys.Deleted volume bucket owner key local) row =
    (first : Block) × (first_of row ≡ Some first) × (IsKept all volume bucket first → ⊥)
IsDead all (keys.Volume volume) row = ⊥
IsDead all (keys.Bucket volume bucket) row = ⊥
IsDead all (keys.Key volume bucket key) row = ⊥
IsDead all (keys.Open volume bucket key number) row = ⊥
IsDead all (keys.Snapshot volume bucket number) row = ⊥
IsDead all (keys.SnapshotKey volume bucket snapshot key) row = ⊥
IsDead all (keys.Renamed volume bucket owner local) row = ⊥
IsDead all (keys.Stripe stripe) row = ⊥

-- this row is there, and it is dead
abbrev pub HasDead : Rows → RowKey → Row → Type 0
HasDead all key row = (all key ≡ Some row) × IsDead all key row

-- the key's dead row, none where there is none
abbrev pub IsDeadRow : Rows → RowKey → Option Row → Type 0
IsDeadRow all key None = (row : Row) → HasDead all key row → ⊥
IsDeadRow all key (Some row) = HasDead all key row

-- each change puts the key's dead row, or takes it away where there is none
abbrev pub AreFiled : Rows → List Change → Type 0
AreFiled all changes = AllByRecursion (λ (change : Change). IsDeadRow all change.key change.row) changes
