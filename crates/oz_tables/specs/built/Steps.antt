-- For private calls: what the single steps of building make and find.
use Rattle.std.specs.Prelude.{◌≡◌, ℕ, Bool, true, false, not, ◌&&◌, ◌+◌, ◌-◌, ◌<◌, ◌≤◌, ◌⊎◌, List, [], ◌∷◌, ◌++◌}
use Rattle.std.specs.Prelude.{length, map, Option, None, Some, Ok, Err}
use Rattle.std.specs.List.{list_any}
use Rattle.oz_rows.specs.declared.fault.ReadFault.{ReadFault}
use Rattle.oz_rows.specs.declared.fault.ReadFault.TheVariants as reads
use Rattle.oz_rows.specs.declared.key.RowKey.{RowKey}
use Rattle.oz_rows.specs.declared.row.Row.{Row}
use Rattle.oz_rows.specs.declared.row.Row.TheVariants as rows
use Rattle.oz_rows.specs.declared.row.SnapshotState.TheVariants.{Live}
use Rattle.oz_rows.specs.declared.operation.Head.{Head}
use Rattle.oz_rows.specs.declared.operation.Operation.{Operation}
use Rattle.oz_rows.specs.declared.operation.Operation.TheVariants.{Remove}
use Rattle.oz_rows.specs.declared.operation.Operations.{Operations}
use Rattle.oz_rows.specs.Operations.{IsHead, AreOperations, batch_bytes, head_bytes, head_in}
use Rattle.oz_rows.specs.Reading.{head_at, operation_at}
use Rattle.oz_tables.specs.declared.built.body.Step.{Step}
use Rattle.oz_rows.specs.declared.entry.RowEntry.{RowEntry}
use Rattle.oz_tables.specs.declared.built.fault.BuildFault.{BuildFault}
use Rattle.oz_tables.specs.declared.built.fault.BuildFault.TheVariants as faults
use Rattle.oz_tables.specs.Tables.{TableView}
use Rattle.oz_rows.specs.RowMaps.{row_of, is_same}
use Rattle.oz_effects.specs.Effects.{Leads}
use Rattle.oz_effects.specs.Parts.{IsPart}
use Rattle.oz_effects.specs.Build.{base_of, puts, IsAtFault, NoneAtFault, Rises, IsNextBody}

-- a fault of reading, as a place in a body
abbrev pub fault_in : ℕ → List ℕ → ReadFault → BuildFault
fault_in count bytes (reads.Left left) = faults.Damaged count (length bytes - left)
fault_in count bytes reads.OutOfMemory = faults.OutOfMemory

-- where the fault is not want of memory
abbrev pub IfLeft : (ℕ → Type 0) → ReadFault → Type 0
IfLeft P (reads.Left left) = P left
IfLeft P reads.OutOfMemory = Unit {0}

abbrev pub operations_of : List Step → List Operation
operations_of steps = map (λ (step : Step). step.operation) steps

-- the head of a body, which may follow the last
pub record HeadRises (last : Head) (bytes : List ℕ) (head : Head) (rest : List ℕ) : Type 0 where
  pub reads : head_at bytes ≡ Ok (head, rest)
  pub fits : IsHead head
  pub parts : bytes ≡ head_bytes head ++ rest
  pub rises : Rises last head

-- an operation removes a row that isn't there
pub record RemovesNothing (all : List RowEntry) (operation : Operation) : Type 0 where
  pub key : RowKey
  pub is : operation ≡ Remove key
  pub absent : row_of all key ≡ None

-- each step knows how many bytes were left from its operation on, where so many are left behind all
abbrev pub AreLeft : ℕ → List Step → Type 0
AreLeft behind [] = Unit {0}
AreLeft behind (step ∷ steps) =
    (step.left ≡ length (batch_bytes (operations_of (step ∷ steps))) + behind) × AreLeft behind steps

-- operations that were read from the front of the bytes and applied
pub record StepsLead (before : List RowEntry) (bytes : List ℕ) (steps : List Step) (rest : List ℕ)
    (after : List RowEntry) : Type 0 where
  pub fit : AreOperations (operations_of steps)
  pub parts : bytes ≡ batch_bytes (operations_of steps) ++ rest
  pub leads : Leads before (operations_of steps) after
  pub left : AreLeft (length rest) steps

-- all of the bytes
abbrev pub BatchLeads : List RowEntry → List ℕ → List Step → List RowEntry → Type 0
BatchLeads before bytes steps after = StepsLead before bytes steps [] after

-- behind operations that may follow each other so many bytes are left, from a fault on
pub record BatchStops (before : List RowEntry) (bytes : List ℕ) (between : List RowEntry) (left : ℕ) : Type 0 where
  pub items : List Operation
  pub rest : List ℕ
  pub fit : AreOperations items
  pub parts : bytes ≡ batch_bytes items ++ rest
  pub leads : Leads before items between
  pub not_over : 1 ≤ length rest
  pub fails : (operation_at rest ≡ Err left)
      ⊎ ((key : RowKey) × (behind : List ℕ) × (operation_at rest ≡ Ok (Remove key, behind))
      × (row_of between key ≡ None)
      × (left ≡ length rest))

-- what a body makes of tables, behind a head, and its own head
pub record Follows (last : Head) (before : TableView) (bytes : List ℕ) (after : TableView) (head : Head) : Type 0 where
  pub body : Operations
  pub next : IsNextBody last before.rows bytes body after.rows
  pub head_is : head_in body ≡ head
  pub index : body.index ≡ after.last_index

-- the first step that is
pub record FirstAtFault (all : List RowEntry) (steps : List Step) (left : ℕ) : Type 0 where
  pub earlier : List Step
  pub step : Step
  pub later : List Step
  pub parts : steps ≡ earlier ++ step ∷ later
  pub first : NoneAtFault all (operations_of steps) (operations_of earlier) (operations_of (step ∷ later))
  pub at_fault : IsAtFault all (operations_of steps) (operations_of later) step.operation
  pub left_is : left ≡ step.left

abbrev pub is_live : Row → Bool
is_live (rows.Snapshot name previous Live) = true
is_live row = false

abbrev pub is_needed : RowKey → Option RowKey → Bool
is_needed base None = false
is_needed base (Some needed) = is_same base needed

-- the row needs the one of this key
abbrev pub stands_on : RowKey → RowEntry → Bool
stands_on base entry = is_needed base (base_of entry.key entry.row)

-- and no operation put it
abbrev pub is_left : List Operation → RowKey → RowEntry → Bool
is_left items base entry = stands_on base entry && not (list_any (puts entry.key) items)

-- whether one of the rows of a part is
pub record IsLeftAmong (all : List RowEntry) (front : List (List ℕ)) (items : List Operation) (base : RowKey)
    (found : Bool) : Type 0 where
  pub part : List RowEntry
  pub is : IsPart all front part
  pub told : found ≡ list_any (is_left items base) part
