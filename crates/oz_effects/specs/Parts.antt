-- The rows whose keys begin with the same fields, which stand together, as those of a kind in one volume, or in one
-- bucket.
use Rattle.std.specs.Prelude.{◌≡◌, ℕ, List, [], ◌∷◌, ◌++◌, length, take, Option, None, Some}
use Rattle.std.specs.List.{AllByRecursion}
use Rattle.std.specs.Ordering.{nat_cmp}
use Rattle.std.specs.declared.cmp.Ordering.{Ordering}
use Rattle.std.specs.declared.cmp.Ordering.TheVariants.{Less, Equal, Greater}
use Rattle.std.specs.Cmp.Lexicographic.{slice_cmp}
use Rattle.oz_rows.specs.declared.entry.RowEntry.{RowEntry}
use Rattle.oz_rows.specs.declared.key.RowKey.{RowKey}
use Rattle.oz_rows.specs.declared.row.Row.{Row}
use Rattle.oz_rows.specs.Rows.{kind_of}
use Rattle.oz_rows.specs.Order.{key_fields}
use Rattle.oz_rows.specs.RowMaps.{IsBelow}
use Rattle.oz_effects.specs.declared.parts.Part.{Part}
use Rattle.oz_effects.specs.declared.parts.Part.TheVariants as parts

-- the kind and the key fields, as the order of keys sees them
abbrev pub fields_of : RowKey → List (List ℕ)
fields_of key = (kind_of key ∷ []) ∷ key_fields key

-- how the keys that begin with these fields stand to a key: below it, above it, or among them it is
abbrev pub part_order : List (List ℕ) → RowKey → Ordering
part_order front key = slice_cmp (slice_cmp nat_cmp) front (take (length front) (fields_of key))

-- all rows whose keys begin with these fields, between lower and greater ones
pub record IsPart (all : List RowEntry) (front : List (List ℕ)) (part : List RowEntry) : Type 0 where
  pub lower : List RowEntry
  pub greater : List RowEntry
  pub parts : all ≡ lower ++ (part ++ greater)
  pub before : AllByRecursion (λ entry. part_order front entry.key ≡ Greater) lower
  pub among : AllByRecursion (λ entry. part_order front entry.key ≡ Equal) part
  pub behind : AllByRecursion (λ entry. part_order front entry.key ≡ Less) greater

-- the kind of a part's rows
abbrev pub kind_in : Part → ℕ
kind_in parts.AllKeys = 3
kind_in parts.Buckets = 2
kind_in parts.Keys = 3
kind_in parts.Sessions = 4
kind_in parts.Deleted = 5
kind_in parts.Snapshots = 6
kind_in parts.SnapshotKeys = 7
kind_in parts.Renamed = 8

-- the fields with which their keys begin behind the kind
abbrev pub home_of : Part → List ℕ → List ℕ → List (List ℕ)
home_of parts.AllKeys volume bucket = []
home_of parts.Buckets volume bucket = volume ∷ []
home_of part volume bucket = volume ∷ bucket ∷ []

abbrev pub front_of : Part → List ℕ → List ℕ → List (List ℕ)
front_of part volume bucket = (kind_in part ∷ []) ∷ home_of part volume bucket

-- the key begins with these fields, and none that does is below it
pub record IsFirst (front : List (List ℕ)) (key : RowKey) : Type 0 where
  pub among : part_order front key ≡ Equal
  pub least : (other : RowKey) → part_order front other ≡ Equal → IsBelow other key → ⊥

-- For a private call: the row that a key has itself.
abbrev pub own_row : RowKey → Option Row → List RowEntry
own_row key None = []
own_row key (Some row) = record { key = key; row = row } ∷ []
