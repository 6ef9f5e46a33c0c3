-- What is seen of blocks, and what a disk stands for.
use Rattle.std.specs.Prelude.{◌≡◌, ◌⊎◌, ℕ, ◌+◌, Bool, List, Option, Some, Result, Ok, Err, slice_get}
use Rattle.oz_entries.specs.Build.{Makes, FailsAt}
use Rattle.oz_entries.specs.Held.{HeldView, node_of}
use Rattle.oz_entries.specs.Node.{Node}
use Rattle.oz_journal.specs.declared.load_fault.LoadFault.{LoadFault}
use Rattle.oz_journal.specs.Grammar.{IsJournal, IsDamagedAt, places}

-- the disk, whether a call on it has failed, and what is held in memory
pub record State (D : Type 0) : Type 0 where
  pub disk : D
  pub stopped : Bool
  pub held : HeldView

-- the rows, states and transactions
abbrev pub node_in : {D : Type 0} → State D → Node
node_in state = node_of state.held

-- the bytes are a journal whose bodies make this
abbrev pub StandsFor : List ℕ → Node → Type 0
StandsFor bytes node = (bodies : List (List ℕ)) × IsJournal bytes bodies × Makes bodies node

-- what a disk tells, if it does, stands for this
abbrev pub Keeps : Option (List ℕ) → Node → Type 0
Keeps told node = (bytes : List ℕ) → told ≡ Some bytes → StandsFor bytes node

-- one of these bodies of a journal is damaged, and its first bad field has this place on the disk
pub record IsFaultIn (bodies : List (List ℕ)) (offset : ℕ) : Type 0 where
  pub count : ℕ
  pub at : ℕ
  pub fails : FailsAt bodies count at
  pub begin : ℕ
  pub begins : slice_get (places 0 bodies) count ≡ Some begin
  pub place : offset ≡ begin + at

-- the bytes are no journal, or one of its bodies is damaged
abbrev pub IsDamagedDisk : List ℕ → ℕ → Type 0
IsDamagedDisk bytes offset =
    IsDamagedAt bytes offset ⊎ ((bodies : List (List ℕ)) × IsJournal bytes bodies × IsFaultIn bodies offset)

-- the disk after a load: that of the blocks, or the one that comes back
abbrev pub disk_after : {D : Type 0} → Result (State D) (D × LoadFault) → D
disk_after (Ok blocks) = blocks.disk
disk_after (Err refused) = refused.0
