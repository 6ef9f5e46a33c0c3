-- Snapshots are made: what a CreateSnapshot records.
use Rattle.std.specs.Prelude.{◌≡◌, ◌⊎◌, ℕ, ◌+◌, ◌≤◌, List, [], ◌∷◌, None, IsSome}
use Rattle.std.specs.List.{flat_map}
use Rattle.oz_effects.specs.Effects.{operation_changes}
use Rattle.oz_names.specs.Names.{stripe_of}
use Rattle.oz_names.specs.declared.limits.TheConstants.{MOST_NUMBERS}
use Rattle.oz_reclaim.specs.Marks.{HasNumber}
use Rattle.oz_reclaim.specs.Work.{IsLater}
use Rattle.oz_rows.specs.declared.entry.RowEntry.{RowEntry}
use Rattle.oz_rows.specs.declared.key.RowKey.TheVariants as keys
use Rattle.oz_rows.specs.declared.operation.Change.{Change}
use Rattle.oz_rows.specs.declared.operation.Operation.{Operation}
use Rattle.oz_rows.specs.declared.operation.Operation.TheVariants as operations
use Rattle.oz_rows.specs.declared.row.Row.TheVariants as rows
use Rattle.oz_rows.specs.declared.row.SnapshotState.TheVariants.{Live}
use Rattle.oz_rows.specs.Operations.{batch_bytes}
use Rattle.oz_rows.specs.RowMaps.{Rows, AreRows}
use Rattle.oz_sound.specs.StandsFor.{drawn_in}

-- the greatest number of the bucket's snapshots, live or marked, and 0 where there is none
abbrev pub IsLastNumber : Rows → List ℕ → List ℕ → ℕ → Type 0
IsLastNumber all volume bucket last =
    ((last ≡ 0) ⊎ IsSome (all (keys.Snapshot volume bucket last)))
    × ((number : ℕ) → IsLater all volume bucket last number → ⊥)

-- The number is drawn, the snapshot is there and live, it has a copy of each key, and all that the bucket itself owned is
-- the snapshot's.
abbrev pub operations_of_create : List ℕ → List ℕ → List ℕ → ℕ → ℕ → List Operation
operations_of_create volume bucket name number previous =
    operations.Put (keys.Stripe (stripe_of volume)) (rows.Stripe number)
    ∷ operations.Put (keys.Snapshot volume bucket number) (rows.Snapshot name previous Live)
    ∷ operations.CopyKeys volume bucket number
    ∷ operations.MoveDeleted volume bucket 0 number ∷ []

-- The bucket is there, no live snapshot of it has the name, and a number is left, which the snapshot gets. These operations
-- are the batch, and the changes are what each makes of the rows that were there.
pub record Creates (all : Rows) (volume bucket name bytes : List ℕ) (changes : List Change) : Type 0 where
  pub bucket_there : IsSome (all (keys.Bucket volume bucket))
  pub name_is_free : HasNumber all volume bucket name None
  pub number : ℕ
  pub next : number ≡ drawn_in (all (keys.Stripe (stripe_of volume))) + 1
  pub few : number ≤ MOST_NUMBERS
  pub previous : ℕ
  pub last : IsLastNumber all volume bucket previous
  pub batch : bytes ≡ batch_bytes (operations_of_create volume bucket name number previous)
  pub made : (entries : List RowEntry) → AreRows entries all
      → changes ≡ flat_map (operation_changes entries) (operations_of_create volume bucket name number previous)
