-- For calls inside this crate alone.

-- The first deleted rows whose blocks aren't used.
use Rattle.std.specs.Prelude.{◌≡◌, ℕ, ◌≤◌, Bool, true, false, not, List, [], ◌∷◌, length, Option}
use Rattle.std.specs.Prelude.{None, Some, if◌then◌else◌}
use Rattle.std.specs.List.{AllByRecursion, list_any}
use Rattle.oz_fields.specs.declared.block.Block.{Block}
use Rattle.oz_reclaim.specs.Reclaimable.{IsAmongFirst}
use Rattle.oz_rows.specs.Counts.{AllRise}
use Rattle.oz_rows.specs.declared.key.RowKey.{RowKey}
use Rattle.oz_rows.specs.declared.row.Row.{Row}
use Rattle.oz_rows.specs.declared.row.Row.TheVariants as rows
use Rattle.oz_rows.specs.Rows.{kind_of}
use Rattle.oz_rows.specs.RowMaps.{Rows}

-- a deleted row, none of whose blocks passes the test
abbrev pub is_free : (Block → Bool) → Row → Bool
is_free is_used (rows.Deleted blocks) = not (list_any is_used blocks)
is_free is_used rows.Volume = false
is_free is_used rows.Bucket = false
is_free is_used (rows.Key number pieces) = false
is_free is_used (rows.Open blocks) = false
is_free is_used (rows.Snapshot name previous state) = false
is_free is_used (rows.SnapshotKey number pieces) = false
is_free is_used (rows.Renamed key) = false
is_free is_used (rows.Stripe number) = false

-- the key, where its row is such a one
abbrev pub free_key : (Block → Bool) → RowKey → Option Row → List RowKey
free_key is_used key None = []
free_key is_used key (Some row) = if is_free is_used row then key ∷ [] else []

-- such a row has this key
abbrev pub HasFree : Rows → (Block → Bool) → RowKey → Type 0
HasFree all is_used key = (row : Row) × (all key ≡ Some row) × (is_free is_used row ≡ true)

-- these are the keys of the first of them among all rows
pub record AreFirstFree (all : Rows) (is_used : Block → Bool) (most : ℕ) (found : List RowKey) : Type 0 where
  pub rise : AllRise found
  pub each : AllByRecursion (HasFree all is_used) found
  pub few : length found ≤ most
  pub every : (key : RowKey) → kind_of key ≡ 5 → HasFree all is_used key → IsAmongFirst most found key
