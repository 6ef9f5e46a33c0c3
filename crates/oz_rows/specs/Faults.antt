-- Where bytes stop to be a row or a body: the place, from their first byte, of the first field that passes their end or
-- breaks a rule; the row's end where bytes follow it.
use Rattle.std.specs.Prelude.{◌≡◌, ℕ, ◌-◌, ◌≤◌, ◌⊎◌, List, ◌++◌, length, Result, Ok, Err}
use Rattle.oz_rows.specs.declared.fault.ReadFault.{ReadFault}
use Rattle.oz_rows.specs.declared.fault.ReadFault.TheVariants as reads
use Rattle.oz_rows.specs.declared.fault.RowFault.{RowFault}
use Rattle.oz_rows.specs.declared.fault.RowFault.TheVariants as faults
use Rattle.oz_rows.specs.declared.key.RowKey.{RowKey}
use Rattle.oz_rows.specs.declared.row.Row.{Row}
use Rattle.oz_rows.specs.declared.operation.Head.{Head}
use Rattle.oz_rows.specs.declared.operation.Operation.{Operation}
use Rattle.oz_rows.specs.Operations.{AreOperations, batch_bytes, IsHead, head_bytes}
use Rattle.oz_rows.specs.Reading.{row_at, head_at, operation_at}

-- a fault of reading, as a place
abbrev pub place_in : List ℕ → ReadFault → RowFault
place_in bytes (reads.Left left) = faults.At (length bytes - left)
place_in bytes reads.OutOfMemory = faults.OutOfMemory

-- the fault, where so many bytes are left from it on
abbrev pub IsFromEnd : List ℕ → ℕ → ℕ → Type 0
IsFromEnd bytes left place = place ≡ length bytes - left

-- a field of the row is at fault, or bytes follow the row
abbrev pub RowEnds : List ℕ → ℕ → Result ((RowKey × Row) × List ℕ) ℕ → Type 0
RowEnds bytes place (Err left) = IsFromEnd bytes left place
RowEnds bytes place (Ok found) = (1 ≤ length found.1) × IsFromEnd bytes (length found.1) place

abbrev pub IsRowFault : List ℕ → RowFault → Type 0
IsRowFault bytes (faults.At place) = RowEnds bytes place (row_at bytes)
IsRowFault bytes faults.OutOfMemory = Unit {0}

-- a field of the head is at fault
abbrev pub HeadEnds : List ℕ → ℕ → Type 0
HeadEnds bytes place = (left : ℕ) × (head_at bytes ≡ Err left) × IsFromEnd bytes left place

-- behind whole operations stands a field of another one that is at fault
pub record BatchEnds (bytes : List ℕ) (left : ℕ) : Type 0 where
  pub before : List Operation
  pub rest : List ℕ
  pub before_fits : AreOperations before
  pub parts : bytes ≡ batch_bytes before ++ rest
  pub not_over : 1 ≤ length rest
  pub fault : operation_at rest ≡ Err left

-- the head is whole, and such a field stands behind it
pub record OperationEnds (bytes : List ℕ) (place : ℕ) : Type 0 where
  pub head : Head
  pub batch : List ℕ
  pub left : ℕ
  pub head_fits : IsHead head
  pub parts : bytes ≡ head_bytes head ++ batch
  pub batch_ends : BatchEnds batch left
  pub is_left : IsFromEnd bytes left place

abbrev pub IsBodyFault : List ℕ → RowFault → Type 0
IsBodyFault bytes (faults.At place) = HeadEnds bytes place ⊎ OperationEnds bytes place
IsBodyFault bytes faults.OutOfMemory = Unit {0}

-- what a call gave for a batch
abbrev pub BatchFails : List ℕ → ReadFault → Type 0
BatchFails bytes (reads.Left left) = BatchEnds bytes left
BatchFails bytes reads.OutOfMemory = Unit {0}
