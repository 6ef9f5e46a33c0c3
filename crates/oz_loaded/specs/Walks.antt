-- For private calls: rows gathered kind by kind.
use Rattle.std.specs.Prelude.{◌≡◌, ℕ, ◌<◌, ◌≤◌, List, [], ◌∷◌, ◌++◌, map}
use Rattle.std.specs.List.{AllByRecursion}
use Rattle.oz_rows.specs.declared.entry.RowEntry.{RowEntry}
use Rattle.oz_rows.specs.declared.key.RowKey.{RowKey}
use Rattle.oz_rows.specs.declared.key.RowKey.TheVariants as keys
use Rattle.oz_rows.specs.declared.operation.Change.{Change}
use Rattle.oz_rows.specs.Rows.{kind_of}
use Rattle.oz_rows.specs.RowMaps.{IsBelow, put}

-- for each kind the key with empty names and numbers 0
abbrev pub first_keys : List RowKey
first_keys = keys.Volume [] ∷ keys.Bucket [] [] ∷ keys.Key [] [] [] ∷ keys.Open [] [] [] 0 ∷ keys.Deleted [] [] 0 [] 0
    ∷ keys.Snapshot [] [] 0 ∷ keys.SnapshotKey [] [] 0 [] ∷ keys.Renamed [] [] 0 0 ∷ keys.Stripe 0 ∷ []

-- no key of the same kind is below
abbrev pub IsFirstOfKind : RowKey → Type 0
IsFirstOfKind start = (other : RowKey) → kind_of other ≡ kind_of start → IsBelow other start → ⊥

-- the rows of all kinds below this one, which stand before the others
pub record StandBefore (kind : ℕ) (all found : List RowEntry) : Type 0 where
  pub rest : List RowEntry
  pub parts : all ≡ found ++ rest
  pub lower : AllByRecursion (λ entry. kind_of entry.key < kind) found
  pub others : AllByRecursion (λ entry. kind ≤ kind_of entry.key) rest

-- changes that put these rows
abbrev pub puts_of : List RowEntry → List Change
puts_of entries = map (λ (entry : RowEntry). put entry.key entry.row) entries
