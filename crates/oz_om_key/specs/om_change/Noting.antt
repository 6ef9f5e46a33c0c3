-- Which names are noted as a key gets another: for each block of the key that a live snapshot has, the old one.
use Rattle.std.specs.Prelude.{◌≡◌, ℕ, ◌<◌, Bool, true, ◌&&◌, not, List, map, filter, is_some, IsSome}
use Rattle.std.specs.List.{AllByRecursion}
use Rattle.oz_fields.specs.declared.block.Block.{Block}
use Rattle.oz_reclaim.specs.Held.{is_held}
use Rattle.oz_rows.specs.declared.key.RowKey.TheVariants as keys
use Rattle.oz_rows.specs.declared.operation.Change.{Change}
use Rattle.oz_rows.specs.declared.row.Row.TheVariants as rows
use Rattle.oz_rows.specs.RowMaps.{Rows, put}
use Rattle.oz_sound.specs.StandsFor.{NumbersRise, is_among}

-- the bucket has a snapshot row of this number, live or marked
abbrev pub HasSnapshotRow : Rows → List ℕ → List ℕ → ℕ → Type 0
HasSnapshotRow all volume bucket number = (0 < number) × IsSome (all (keys.Snapshot volume bucket number))

-- the numbers of all snapshot rows of the bucket, in order
pub record AreSnapshotNumbers (all : Rows) (volume bucket numbers : List ℕ) : Type 0 where
  pub rise : NumbersRise numbers
  pub each : AllByRecursion (HasSnapshotRow all volume bucket) numbers
  pub every : (number : ℕ) → HasSnapshotRow all volume bucket number → is_among number numbers ≡ true

-- The name of a block of the key is to be noted: the bucket itself has no renamed row of the block yet, and a live snapshot
-- of these numbers has the block.
abbrev pub is_wanted : Rows → List ℕ → List ℕ → List ℕ → List ℕ → Block → Bool
is_wanted all volume bucket key numbers block =
    not (is_some (all (keys.Renamed volume bucket 0 block.local))) && is_held all volume bucket block key numbers

-- the renamed row of the block has this name, and the bucket itself owns it
abbrev pub note : List ℕ → List ℕ → List ℕ → Block → Change
note volume bucket key block = put (keys.Renamed volume bucket 0 block.local) (rows.Renamed key)

-- such a row comes for each of the blocks for which it is wanted
abbrev pub noted : Rows → List ℕ → List ℕ → List ℕ → List ℕ → List Block → List Change
noted all volume bucket key numbers blocks =
    map (note volume bucket key) (filter (is_wanted all volume bucket key numbers) blocks)
