-- What is seen of a datanode, what stops it, and what its two disks stand for.
use Rattle.std.specs.Prelude.{◌≡◌, ℕ, ◌+◌, ◌-◌, ◌^◌, ◌<◌, ◌≤◌, min, Bool, true, false, ◌||◌, List, length}
use Rattle.std.specs.Prelude.{Option, None, Some, Result, Ok, Err, if◌then◌else◌}
use Rattle.oz_block.specs.Blocks.{State as Blocks, node_in as node_in_blocks, StandsFor, IsDamagedDisk}
use Rattle.oz_chunk.specs.Slots.{start_of, end_of, IsWithin}
use Rattle.oz_entries.specs.Node.{Node, is_used}
use Rattle.oz_datanode.specs.declared.disks.NodeDisks.{NodeDisks}
use Rattle.oz_datanode.specs.declared.fault.NodeFault.{NodeFault}
use Rattle.oz_block.specs.shelf.Shelf.{ShelfView}
use Rattle.oz_world.specs.Disk.{TellsAsBefore}

-- its number, its blocks, its slots, and whether a line stopped it
pub record State (D : Type 0) : Type 0 where
  pub id : ℕ
  pub blocks : Blocks D
  pub shelf : ShelfView D
  pub stopped : Bool

-- the rows, states and transactions
abbrev pub node_in : {D : Type 0} → State D → Node
node_in state = node_in_blocks state.blocks

abbrev pub meta_of : {D : Type 0} → State D → D
meta_of state = state.blocks.disk

abbrev pub slots_of : {D : Type 0} → State D → D
slots_of state = state.shelf.slots.disk

-- a call on one of the disks has failed
abbrev pub is_halted : {D : Type 0} → State D → Bool
is_halted state = state.blocks.stopped || state.shelf.failed

-- how often both disks have failed
abbrev pub count_of : {D : Type 0} → (D → ℕ) → State D → ℕ
count_of faults state = min (faults (meta_of state) + faults (slots_of state)) (2 ^ 64 - 1)

-- the count with which a call is refused, if it is: that of its disks where one of them has failed, and 0 where a line
-- stopped it
abbrev pub stop_of : {D : Type 0} → (D → ℕ) → State D → Option ℕ
stop_of faults state = if is_halted state then Some (count_of faults state) else (if state.stopped then Some 0 else None)

-- neither a disk nor a line has stopped it
abbrev pub Runs : {D : Type 0} → (D → ℕ) → State D → Type 0
Runs faults state = stop_of faults state ≡ None

-- the offset is the beginning of the lowest of the slots in use that pass the end of a disk of this length
pub record IsLowestPast (node : Node) (size : ℕ) (offset : ℕ) : Type 0 where
  pub slot : ℕ
  pub is_in_use : is_used node slot ≡ true
  pub past : size < end_of slot
  pub lowest : (other : ℕ) → is_used node other ≡ true → size < end_of other → slot ≤ other
  pub begins : offset ≡ start_of slot

-- the journal stands for the node, and each slot that is in use lies within the disk of slots
pub record BothStandFor (journal slots : List ℕ) (node : Node) : Type 0 where
  pub stands : StandsFor journal node
  pub within : (slot : ℕ) → is_used node slot ≡ true → IsWithin slot slots

-- The disks can't be loaded: the journal is damaged at this place, or, where that of the slots is meant, it stands for a
-- node of whose slots the lowest that passes the end begins there.
abbrev pub AreDamaged : Bool → List ℕ → List ℕ → ℕ → Type 0
AreDamaged false journal slots offset = IsDamagedDisk journal offset
AreDamaged true journal slots offset =
    (node : Node) × StandsFor journal node × IsLowestPast node (length slots) offset

-- the disks after a load: those of the datanode, or those that come back
abbrev pub meta_after : {D : Type 0} → Result (State D) (NodeDisks D × NodeFault) → D
meta_after (Ok state) = meta_of state
meta_after (Err refused) = refused.0.meta

abbrev pub slots_after : {D : Type 0} → Result (State D) (NodeDisks D × NodeFault) → D
slots_after (Ok state) = slots_of state
slots_after (Err refused) = refused.0.slots

-- Its disks go on: they tell their bytes if they did, and no count of faults falls.
pub record DisksGoOn {D : Type 0} (told : D → Option (List ℕ)) (faults : D → ℕ) (old new : State D) : Type 0 where
  pub meta_tells : TellsAsBefore (told (meta_of old)) (told (meta_of new))
  pub slots_tell : TellsAsBefore (told (slots_of old)) (told (slots_of new))
  pub meta_never_falls : faults (meta_of old) ≤ faults (meta_of new)
  pub slots_never_fall : faults (slots_of old) ≤ faults (slots_of new)
