-- For calls inside this crate alone.

-- How the names of keys are gathered, one row after another.
use Rattle.std.specs.Prelude.{◌≡◌, ℕ, true, List, ◌++◌, filter, is_some, nat_eq}
use Rattle.std.specs.Cmp.Lexicographic.{slice_cmp}
use Rattle.std.specs.declared.cmp.Ordering.TheVariants.{Less}
use Rattle.std.specs.FinMap.{get, keys as names_in}
use Rattle.std.specs.List.{AllByRecursion, starts_with}
use Rattle.std.specs.Ordering.{nat_cmp}
use Rattle.oz_fields.specs.declared.block.Piece.{Piece}
use Rattle.oz_model.specs.Buckets.{is_listed}
use Rattle.oz_namespace.specs.Namespace.{ByName}
use Rattle.oz_om_key.specs.declared.place.Source.{Source}
use Rattle.oz_om_key.specs.Places.{place_of}
use Rattle.oz_rows.specs.declared.key.RowKey.{RowKey}
use Rattle.oz_rows.specs.declared.row.Row.{Row}
use Rattle.oz_rows.specs.RowMaps.{Rows, IsNext}

-- each of the keys has a row, and no other has
abbrev pub HaveRows : Rows → List ℕ → List ℕ → Source → ByName (List Piece) → Type 0
HaveRows rows volume bucket source keys =
    (key : List ℕ) → is_some (get keys key) ≡ is_some (rows (place_of volume bucket source key))

-- the next row is that of this key, whose name has the prefix
pub record IsFound (rows : Rows) (volume bucket : List ℕ) (source : Source) (prefix : List ℕ) (last found : RowKey) (name : List ℕ) : Type 0 where
  pub row : Row
  pub is_next : IsNext rows last found row
  pub its_name : found ≡ place_of volume bucket source name
  pub has_prefix : starts_with nat_eq name prefix ≡ true

-- the next row, where there is one, is of no key whose name has the prefix
abbrev pub IsLast : Rows → List ℕ → List ℕ → Source → List ℕ → RowKey → Type 0
IsLast rows volume bucket source prefix last =
    (name : List ℕ) (row : Row) → starts_with nat_eq name prefix ≡ true
    → IsNext rows last (place_of volume bucket source name) row → ⊥

-- These are the first names of those to be listed, and the others stand above this row, which is above none of these.
pub record AreFirst (keys : ByName (List Piece)) (volume bucket : List ℕ) (source : Source) (prefix start : List ℕ) (last : RowKey)
    (found : List (List ℕ)) : Type 0 where
  pub rest : List (List ℕ)
  pub whole : filter (is_listed prefix start) (names_in keys) ≡ found ++ rest
  pub at : List ℕ
  pub last_is : last ≡ place_of volume bucket source at
  pub over_prefix : slice_cmp nat_cmp at prefix ≡ Less → ⊥
  pub over_start : slice_cmp nat_cmp at start ≡ Less → ⊥
  pub above : AllByRecursion (λ name. slice_cmp nat_cmp at name ≡ Less) rest
  pub done : AllByRecursion (λ name. slice_cmp nat_cmp at name ≡ Less → ⊥) found
