-- How the keys between two keys are gathered, one step after another.
use Rattle.std.specs.Prelude.{◌≡◌, ◌⊎◌, ℕ, Bool, true, false, List, [], ◌∷◌, ◌++◌, Option, Some}
use Rattle.oz_rows.specs.declared.key.RowKey.{RowKey}
use Rattle.oz_rows.specs.declared.key.RowKey.TheVariants as keys
use Rattle.oz_rows.specs.declared.row.Row.{Row}
use Rattle.oz_rows.specs.declared.row.Row.TheVariants as rows
use Rattle.oz_rows.specs.declared.row.SnapshotState.TheVariants.{Live}
use Rattle.oz_rows.specs.RowMaps.{Rows, IsNext, HasNoNext}

-- the last of keys, or the one before them where there are none
abbrev pub last_or : RowKey → List RowKey → RowKey
last_or before [] = before
last_or before (key ∷ others) = last_or key others

-- the next key stands behind those that were found, where there is one
abbrev pub IsStep : Rows → RowKey → List RowKey → List RowKey → Type 0
IsStep all from found now =
    (HasNoNext all (last_or from found) × (now ≡ found))
    ⊎ ((key : RowKey) × (row : Row) × IsNext all (last_or from found) key row × (now ≡ found ++ key ∷ []))

-- the bucket that a key of a bucket's row names
abbrev pub bucket_named : RowKey → List ℕ
bucket_named (keys.Bucket volume bucket) = bucket
bucket_named key = []

-- the row of a snapshot that isn't marked
abbrev pub is_live : Option Row → Bool
is_live (Some (rows.Snapshot name previous Live)) = true
is_live row = false
