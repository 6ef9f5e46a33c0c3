-- For calls inside this crate alone.

-- What the row of a snapshot says of it.
use Rattle.std.specs.Prelude.{◌≡◌, ℕ, ◌+◌, ◌^◌, ◌<◌, ◌≤◌, nat_le, Bool, true, false, List, [], ◌∷◌, ◌++◌}
use Rattle.std.specs.Prelude.{map, Option, Some, if◌then◌else◌}
use Rattle.std.specs.List.{AllByRecursion}
use Rattle.oz_model.specs.Buckets.{is_same_name}
use Rattle.oz_namespace.specs.declared.namespace.Snapshot.{Snapshot}
use Rattle.oz_reclaim.specs.Marks.{IsNamed}
use Rattle.oz_rows.specs.declared.key.RowKey.TheVariants as keys
use Rattle.oz_rows.specs.declared.row.Row.{Row}
use Rattle.oz_rows.specs.declared.row.Row.TheVariants as rows
use Rattle.oz_rows.specs.declared.row.SnapshotState.TheVariants.{Live}
use Rattle.oz_rows.specs.Counts.{IsCount}
use Rattle.oz_rows.specs.RowMaps.{Rows}
use Rattle.oz_sound.specs.StandsFor.{AreSnapshots, IsLive, NumbersRise, is_among}

-- the row of a live snapshot of this name
abbrev pub is_named : Option Row → List ℕ → Bool
is_named (Some (rows.Snapshot other previous Live)) name = is_same_name other name
is_named row name = false

-- the number of the snapshot before it
abbrev pub previous_of : Option Row → ℕ
previous_of (Some (rows.Snapshot name previous state)) = previous
previous_of row = 0

-- no live snapshot up to this number has the name
abbrev pub NoneUpTo : Rows → List ℕ → List ℕ → List ℕ → ℕ → Type 0
NoneUpTo all volume bucket name last =
    (number : ℕ) → 1 ≤ number → number ≤ last → IsNamed all volume bucket name number → ⊥

-- the name, where it is the row of a live snapshot
abbrev pub name_in : Option Row → List (List ℕ)
name_in (Some (rows.Snapshot name previous Live)) = name ∷ []
name_in row = []

-- the snapshots with greater numbers, of numbers that rise
abbrev pub behind : ℕ → List ℕ → List Snapshot → List Snapshot
behind last (number ∷ numbers) (snapshot ∷ snapshots) =
    if nat_le number last then behind last numbers snapshots else snapshot ∷ snapshots
behind last [] snapshots = []
behind last (number ∷ numbers) [] = []

abbrev pub names_of : List Snapshot → List (List ℕ)
names_of snapshots = map (λ (snapshot : Snapshot). snapshot.name) snapshots

-- these are the bucket's live snapshots, in the order of their numbers
pub record ListsAll (all : Rows) (volume bucket numbers : List ℕ) (snapshots : List Snapshot) : Type 0 where
  pub rise : NumbersRise numbers
  pub least : AllByRecursion (λ number. 0 < number) numbers
  pub every : (number : ℕ) → IsLive all volume bucket number → is_among number numbers ≡ true
  pub each : AreSnapshots all volume bucket numbers snapshots

-- these are the names of the bucket's snapshots up to this number
abbrev pub AreNamesUpTo : Rows → List ℕ → List ℕ → ℕ → List (List ℕ) → Type 0
AreNamesUpTo all volume bucket last names =
    (numbers : List ℕ) (snapshots : List Snapshot) → ListsAll all volume bucket numbers snapshots
    → names ++ names_of (behind last numbers snapshots) ≡ names_of snapshots

-- these are the names of all of them
abbrev pub AreListed : Rows → List ℕ → List ℕ → List (List ℕ) → Type 0
AreListed all volume bucket names =
    (numbers : List ℕ) (snapshots : List Snapshot) → ListsAll all volume bucket numbers snapshots
    → names ≡ names_of snapshots

-- so many keys has the snapshot of this number, where that isn't the greatest integer
abbrev pub IsKeyCount : Rows → List ℕ → List ℕ → ℕ → ℕ → Type 0
IsKeyCount all volume bucket number count =
    number + 1 < 2 ^ 64
    → (size : ℕ)
    × IsCount all (keys.SnapshotKey volume bucket number []) (keys.SnapshotKey volume bucket (number + 1) []) size
    × (size < 2 ^ 32 → count ≡ size)
