-- Which bytes are the batch of changes.
use Rattle.std.specs.Prelude.{◌≡◌, ℕ, List}
use Rattle.oz_rows.specs.declared.key.RowKey.{RowKey}
use Rattle.oz_rows.specs.declared.operation.Change.{Change}
use Rattle.oz_rows.specs.declared.operation.Operation.{Operation}
use Rattle.oz_rows.specs.Operations.{AreOperations, batch_bytes}
use Rattle.oz_rows.specs.declared.entry.RowEntry.{RowEntry}
use Rattle.oz_rows.specs.RowMaps.{Rows, AreRows, row_of, row_after}
use Rattle.oz_effects.specs.Effects.{Leads}
use Rattle.oz_effects.specs.Build.{AllAreBased}

-- Operations may follow these rows, each row has afterwards the one that it needs, and all come to what the changes
-- lead to.
pub record ComesTo (all : List RowEntry) (items : List Operation) (changes : List Change) : Type 0 where
  pub after : List RowEntry
  pub leads : Leads all items after
  pub based : AllAreBased after
  pub rows_are : (key : RowKey) → row_of after key ≡ row_after changes key (row_of all key)

-- The bytes are those of operations that may follow the rows, and that change what the changes do.
pub record IsBatchOf (rows : Rows) (bytes : List ℕ) (changes : List Change) : Type 0 where
  pub items : List Operation
  pub fit : AreOperations items
  pub bytes_are : bytes ≡ batch_bytes items
  pub comes : (all : List RowEntry) → AreRows all rows → AllAreBased all → ComesTo all items changes
