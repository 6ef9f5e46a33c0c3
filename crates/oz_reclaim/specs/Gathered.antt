-- For calls inside this crate alone.

-- All rows of one kind, in the order of their keys.
use Rattle.std.specs.Prelude.{◌≡◌, ℕ, List, Some}
use Rattle.std.specs.List.{AllByRecursion}
use Rattle.oz_rows.specs.declared.entry.RowEntry.{RowEntry}
use Rattle.oz_rows.specs.declared.key.RowKey.{RowKey}
use Rattle.oz_rows.specs.declared.row.Row.{Row}
use Rattle.oz_rows.specs.Rows.{kind_of}
use Rattle.oz_rows.specs.RowMaps.{Rows, IsBelow, KeysRise, row_of}

-- no key of the same kind is below it
abbrev pub IsLeast : RowKey → Type 0
IsLeast key = (other : RowKey) → kind_of other ≡ kind_of key → IsBelow other key → ⊥

-- an entry of these rows, of this kind
abbrev pub IsOfKind : Rows → ℕ → RowEntry → Type 0
IsOfKind all kind entry = (kind_of entry.key ≡ kind) × (all entry.key ≡ Some entry.row)

pub record AreAllOf (all : Rows) (kind : ℕ) (found : List RowEntry) : Type 0 where
  pub in_order : KeysRise found
  pub each : AllByRecursion (IsOfKind all kind) found
  pub every : (key : RowKey) (row : Row) → kind_of key ≡ kind → all key ≡ Some row → row_of found key ≡ Some row
