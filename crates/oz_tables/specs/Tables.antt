-- What tables are to contracts.
use Rattle.std.specs.Prelude.{ℕ, List, map}
use Rattle.oz_rows.specs.declared.entry.RowEntry.{RowEntry}
use Rattle.oz_rows.specs.declared.key.RowKey.{RowKey}
use Rattle.oz_rows.specs.declared.row.Row.{Row}
use Rattle.oz_sorted.specs.declared.entry.Entry.{Entry}

-- the rows, the last index, and the number of changes for which there is room
pub record TableView : Type 0 where
  pub rows : List RowEntry
  pub last_index : ℕ
  pub spare : ℕ

-- the entries of an ordered map, as rows
abbrev pub rows_in : List (Entry RowKey Row) → List RowEntry
rows_in entries = map (λ (entry : Entry RowKey Row). record { key = entry.key; row = entry.value }) entries
