-- For private calls: what the single steps of building make and find.
use Rattle.std.specs.Prelude.{◌≡◌, ℕ, ◌-◌, List, length}
use Rattle.oz_rows.specs.declared.fault.ReadFault.{ReadFault}
use Rattle.oz_rows.specs.declared.fault.ReadFault.TheVariants as reads
use Rattle.oz_entries.specs.declared.entry.Entry.{Entry}
use Rattle.oz_entries.specs.declared.fault.BuildFault.{BuildFault}
use Rattle.oz_entries.specs.declared.fault.BuildFault.TheVariants as faults
use Rattle.oz_entries.specs.Build.{IsNext}
use Rattle.oz_entries.specs.Node.{Node, after_entry}

-- a fault of reading, as a place in a body
abbrev pub fault_in : ℕ → List ℕ → ReadFault → BuildFault
fault_in count bytes (reads.Left left) = faults.Damaged count (length bytes - left)
fault_in count bytes reads.OutOfMemory = faults.OutOfMemory

-- where the fault is not want of memory
abbrev pub IfLeft : (ℕ → Type 0) → ReadFault → Type 0
IfLeft P (reads.Left left) = P left
IfLeft P reads.OutOfMemory = Unit {0}

-- what a body makes of a node
pub record Follows (before : Node) (bytes : List ℕ) (after : Node) : Type 0 where
  pub entry : Entry
  pub next : IsNext before bytes entry
  pub is : after ≡ after_entry entry before
