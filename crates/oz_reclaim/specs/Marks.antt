-- Deleted snapshots are marked: their rows stay until all that they own has gone on.
use Rattle.std.specs.Prelude.{◌≡◌, ℕ, ◌≤◌, List, [], ◌∷◌, Option, None, Some, IsSome}
use Rattle.oz_decision.specs.Drafts.{row_by_row}
use Rattle.oz_rows.specs.declared.key.RowKey.TheVariants as keys
use Rattle.oz_rows.specs.declared.operation.Change.{Change}
use Rattle.oz_rows.specs.declared.row.Row.TheVariants as rows
use Rattle.oz_rows.specs.declared.row.SnapshotState.TheVariants.{Live, Marked}
use Rattle.oz_rows.specs.Operations.{batch_bytes}
use Rattle.oz_rows.specs.RowMaps.{Rows, put}

-- the bucket's live snapshot of this number has this name
abbrev pub IsNamed : Rows → List ℕ → List ℕ → List ℕ → ℕ → Type 0
IsNamed all volume bucket name number =
    (previous : ℕ) × (all (keys.Snapshot volume bucket number) ≡ Some (rows.Snapshot name previous Live))

-- the number of the bucket's live snapshot of this name, none where there is none
abbrev pub HasNumber : Rows → List ℕ → List ℕ → List ℕ → Option ℕ → Type 0
HasNumber all volume bucket name None =
    (number : ℕ) → 1 ≤ number → IsNamed all volume bucket name number → ⊥
HasNumber all volume bucket name (Some number) = (1 ≤ number) × IsNamed all volume bucket name number

-- The bucket is there, and the one change is that its live snapshot of this name is marked.
pub record Marks (all : Rows) (volume bucket name bytes : List ℕ) (changes : List Change) : Type 0 where
  pub bucket_there : IsSome (all (keys.Bucket volume bucket))
  pub number : ℕ
  pub previous : ℕ
  pub there : all (keys.Snapshot volume bucket number) ≡ Some (rows.Snapshot name previous Live)
  pub marked : changes ≡ put (keys.Snapshot volume bucket number) (rows.Snapshot name previous Marked) ∷ []
  pub batch : bytes ≡ batch_bytes (row_by_row changes)
