-- Parts of rows that have all of a bucket, and when the blocks of its sessions stand in no key of the others.
use Rattle.std.specs.Prelude.{◌≡◌, ℕ, Bool, true, false, List, Some, filter}
use Rattle.std.specs.List.{list_any}
use Rattle.oz_fields.specs.declared.block.Block.{Block}
use Rattle.oz_rows.specs.declared.key.RowKey.{RowKey}
use Rattle.oz_rows.specs.declared.key.RowKey.TheVariants as keys
use Rattle.oz_rows.specs.declared.row.Row.{Row}
use Rattle.oz_rows.specs.declared.row.Row.TheVariants as rows
use Rattle.oz_rows.specs.declared.entry.RowEntry.{RowEntry}
use Rattle.oz_rows.specs.RowMaps.{Rows, is_block}
use Rattle.oz_effects.specs.Effects.{has_block}

-- the rows whose keys are of the part
abbrev pub part_of : (RowKey → Bool) → List RowEntry → List RowEntry
part_of part all = filter (λ (entry : RowEntry). part entry.key) all

-- the part has every row of the bucket but the bucket's own and those of its snapshots
pub record HasBucket (part : RowKey → Bool) (volume bucket : List ℕ) : Type 0 where
  pub keys_in : (key : List ℕ) → part (keys.Key volume bucket key) ≡ true
  pub sessions : (key : List ℕ) (number : ℕ) → part (keys.Open volume bucket key number) ≡ true
  pub deleted : (owner local : ℕ) (key : List ℕ) → part (keys.Deleted volume bucket owner key local) ≡ true
  pub snapshot_keys : (number : ℕ) (key : List ℕ) → part (keys.SnapshotKey volume bucket number key) ≡ true
  pub renamed : (owner local : ℕ) → part (keys.Renamed volume bucket owner local) ≡ true

-- A block of a session of the bucket, as these rows have it, stands in no key outside the part, as those rows have it.
abbrev pub IsApart : (RowKey → Bool) → Rows → Rows → List ℕ → List ℕ → Type 0
IsApart part sessions others volume bucket =
    (key : List ℕ) (number : ℕ) (blocks : List Block) (block : Block) (other : RowKey) (row : Row)
    → sessions (keys.Open volume bucket key number) ≡ Some (rows.Open blocks)
    → list_any (is_block block) blocks ≡ true
    → part other ≡ false → others other ≡ Some row → has_block block other row ≡ false
