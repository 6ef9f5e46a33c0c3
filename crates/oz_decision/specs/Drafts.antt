-- A batch that is put together.
use Rattle.std.specs.Prelude.{ℕ, List, Option, None, Some, map}
use Rattle.oz_rows.specs.declared.key.RowKey.{RowKey}
use Rattle.oz_rows.specs.declared.operation.Change.{Change}
use Rattle.oz_rows.specs.declared.operation.Operation.{Operation}
use Rattle.oz_rows.specs.declared.operation.Operation.TheVariants.{Put, Remove}
use Rattle.oz_rows.specs.declared.row.Row.{Row}

-- what it has so far, in bytes and as changes
pub record DraftView : Type 0 where
  pub bytes : List ℕ
  pub changes : List Change

-- the operation that gives a key this row, or takes its row away
abbrev pub operation_for : RowKey → Option Row → Operation
operation_for key (Some row) = Put key row
operation_for key None = Remove key

-- the operations that make changes row by row
abbrev pub row_by_row : List Change → List Operation
row_by_row changes = map (λ (change : Change). operation_for change.key change.row) changes
