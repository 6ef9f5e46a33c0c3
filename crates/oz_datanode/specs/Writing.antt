-- What writing a chunk, putting a block and leaving its chunks do to a datanode, a row for each answer.
use Rattle.std.specs.Prelude.{◌≡◌, ◌⊎◌, ℕ, ◌<◌, Bool, true, false, ◌||◌, List, [], ◌∷◌, length, filter, Option, Some, Result, Ok, Err, IfSome, if◌then◌else◌}
use Rattle.oz_block.specs.Changes.{Changes}
use Rattle.oz_block.specs.declared.fault.BlockFault.TheVariants as stops
use Rattle.oz_chunk.specs.Disk.{Syncs}
use Rattle.oz_chunk.specs.Slots.{IsWithin}
use Rattle.oz_chunk.specs.Taken.{is_taken, AllTakenBelow}
use Rattle.oz_chunk.specs.declared.table.TheConstants.{SLOTS, SLOT_SIZE, CAPACITY}
use Rattle.oz_container.specs.declared.state.State.{State}
use Rattle.oz_container.specs.declared.state.State.TheVariants as states
use Rattle.oz_entries.specs.Held.{any_in}
use Rattle.oz_entries.specs.Node.{is_held, is_used}
use Rattle.oz_entries.specs.declared.entry.Entry.TheVariants as entries
use Rattle.oz_entries.specs.declared.row.BlockRow.{BlockRow}
use Rattle.oz_entries.specs.declared.row.Chunk.{Chunk}
use Rattle.oz_fields.specs.declared.block.Block.{Block}
use Rattle.oz_block.specs.shelf.Shelf.{ShelfView, IsWritten, KeepsTold}
use Rattle.oz_block.specs.shelf.Written.{chunks_in, is_at, makes, row_of, written_of, written_besides}
use Rattle.oz_block.specs.declared.shelf.written.Written.{Written}
use Rattle.oz_world.specs.Disk.{Images}
use Rattle.oz_world.specs.Faults.{Rose}
use Rattle.sha2.specs.Sha256.{sha256}
use Rattle.oz_datanode.specs.Datanode.{State as NodeState, node_in, meta_of, slots_of, is_halted, count_of, stop_of, Runs}
use Rattle.oz_datanode.specs.Pairs.{Content, Has, part_of, with_content, journal_seen, slots_seen}
use Rattle.oz_datanode.specs.declared.refusal.NodeRefusal.{NodeRefusal}
use Rattle.oz_datanode.specs.declared.refusal.NodeRefusal.TheVariants as refusals

abbrev pub is_open : State → Bool
is_open states.Open = true
is_open states.Closing = false
is_open states.QuasiClosed = false
is_open states.Closed = false
is_open states.Deleting = false
is_open states.Deleted = false

-- the state of the replica in which a block belongs
abbrev pub state_for : {D : Type 0} → NodeState D → Block → State
state_for node block = (node_in node).states block.container

-- ---- what was written

-- bytes with the digests that are kept of them
abbrev pub intact : List ℕ → Content
intact bytes = record { bytes = bytes; intact = true }

-- The chunks that were written of a block make these bytes, and have their digests.
pub record MakeBytes {D : Type 0} (told : D → Option (List ℕ)) (block : Block) (bytes : List ℕ)
    (shelf : ShelfView D) : Type 0 where
  pub made : makes shelf.written block (length bytes) ≡ true
  pub has : IfSome (told shelf.slots.disk) (Has (intact bytes) (row_of shelf.written block (length bytes)))

-- The chunk that was written last to a place of a block has these bytes, with their digest.
pub record HasPart (block : Block) (place : ℕ) (bytes : List ℕ) (written : List Written)
    (told : Option (List ℕ)) : Type 0 where
  pub chunk : Chunk
  pub listed : filter (is_at block place) written
      ≡ record { block = block; place = place; size = length bytes; chunk = chunk } ∷ []
  pub digest : chunk.digest ≡ sha256 bytes
  pub has : IfSome told (λ disk. IsWithin chunk.slot disk × (part_of (length bytes) chunk disk ≡ bytes))

-- ---- why a call isn't served

-- It was stopped before, by a line or by a disk, and nothing changes.
pub record WasStopped {D : Type 0} (faults : D → ℕ) (old new : NodeState D) (count : ℕ) : Type 0 where
  pub stop : stop_of faults old ≡ Some count
  pub same : new ≡ old

-- One of its disks failed in the call. What it holds and what was written is as it was.
pub record Halts {D : Type 0} (faults : D → ℕ) (old new : NodeState D) (count : ℕ) : Type 0 where
  pub ran : Runs faults old
  pub halted : is_halted new ≡ true
  pub counted : count ≡ count_of faults new
  pub cause : Rose (faults (meta_of old)) (faults (meta_of new)) ⊎ Rose (faults (slots_of old)) (faults (slots_of new))
  pub node : node_in new ≡ node_in old
  pub written : new.shelf.written ≡ old.shelf.written
  pub id : new.id ≡ old.id
  pub line : new.stopped ≡ old.stopped

-- The replica isn't open, and nothing changes.
pub record IsNotOpen {D : Type 0} (faults : D → ℕ) (block : Block) (old new : NodeState D) (state : State) : Type 0 where
  pub ran : Runs faults old
  pub is : state ≡ state_for old block
  pub not_open : is_open state ≡ false
  pub same : new ≡ old

-- Neither a line nor a disk has stopped it, and the replica is open.
pub record IsOpen {D : Type 0} (faults : D → ℕ) (block : Block) (old : NodeState D) : Type 0 where
  pub ran : Runs faults old
  pub is : is_open (state_for old block) ≡ true

-- ---- writing a chunk

-- The chunk stands in the lowest slot that was free, what stood in those that were taken stands there still, and nothing
-- else changes.
pub record Wrote {D : Type 0} (told : D → Option (List ℕ)) (faults : D → ℕ) (block : Block) (place : ℕ)
    (bytes : List ℕ) (old new : NodeState D) : Type 0 where
  pub written : IsWritten block place bytes old.shelf new.shelf (told (slots_of new))
  pub kept : KeepsTold (is_taken old.shelf.slots.taken) (told (slots_of old)) (told (slots_of new))
  pub same : new ≡ record old { shelf = new.shelf }
  pub runs : Runs faults new

-- Each slot is taken, by a block or by a chunk that was written and not put, and nothing changes.
pub record IsFull {D : Type 0} (old new : NodeState D) (in_use wanted in_all : ℕ) : Type 0 where
  pub full : AllTakenBelow SLOTS old.shelf.slots.taken
  pub whose : (slot : ℕ) → slot < SLOTS
      → (is_used (node_in old) slot || any_in (chunks_in old.shelf.written) slot) ≡ true
  pub used : in_use ≡ CAPACITY
  pub asked : wanted ≡ SLOT_SIZE
  pub capacity : in_all ≡ CAPACITY
  pub same : new ≡ old

-- A slot was free, and the disk of slots failed in the call.
pub record WriteHalts {D : Type 0} (faults : D → ℕ) (old new : NodeState D) (count : ℕ) : Type 0 where
  pub room : ¬ AllTakenBelow SLOTS old.shelf.slots.taken
  pub own : Rose (faults (slots_of old)) (faults (slots_of new))
  pub halts : Halts faults old new count
  pub blocks : new.blocks ≡ old.blocks

abbrev pub WriteEnds : {D T : Type 0} → (D → Option (List ℕ)) → (D → ℕ) → Block → ℕ → List ℕ → NodeState D
    → NodeState D → Result T NodeRefusal → Type 0
WriteEnds told faults block place bytes old new (Ok done) =
    IsOpen faults block old × Wrote told faults block place bytes old new
WriteEnds told faults block place bytes old new (Err (refusals.Stopped count)) =
    WasStopped faults old new count ⊎ (IsOpen faults block old × WriteHalts faults old new count)
WriteEnds told faults block place bytes old new (Err (refusals.NotOpen state)) = IsNotOpen faults block old new state
WriteEnds told faults block place bytes old new (Err (refusals.Full used asked capacity)) =
    IsOpen faults block old × IsFull old new used asked capacity
WriteEnds told faults block place bytes old new (Err refusals.OutOfMemory) = IsOpen faults block old × (new ≡ old)
WriteEnds told faults block place bytes old new (Err refusals.NoBlock) = ⊥
WriteEnds told faults block place bytes old new (Err (refusals.Bad kept found)) = ⊥

-- ---- putting a block

-- What was written was made stable, and then the block came to be held with this row, by one body more.
pub record Puts {D : Type 0} (told : D → Option (List ℕ)) (clock : D → ℕ) (image : D → Images) (faults : D → ℕ)
    (block : Block) (row : BlockRow) (old new : NodeState D) : Type 0 where
  pub synced : Syncs {T = Unit {0}} {E = NodeRefusal} (slots_seen told clock image faults old)
      (slots_seen told clock image faults new) (Ok tt)
  pub changed : Changes {T = Unit {0}} (entries.Put block row) old.blocks new.blocks
      (journal_seen told clock image faults old) (journal_seen told clock image faults new) (Ok tt)
  pub taken : new.shelf.slots.taken ≡ old.shelf.slots.taken

-- The block was held before. No disk is called, and the slots of what was written of it are free.
pub record HeldBefore {D : Type 0} (block : Block) (old new : NodeState D) : Type 0 where
  pub blocks : new.blocks ≡ old.blocks
  pub slots : slots_of new ≡ slots_of old
  pub free : (slot : ℕ) → is_taken new.shelf.slots.taken slot
      ≡ (if any_in (chunks_in (written_of block old.shelf.written)) slot then false
      else is_taken old.shelf.slots.taken slot)

pub record WasPut {D : Type 0} (told : D → Option (List ℕ)) (clock : D → ℕ) (image : D → Images) (faults : D → ℕ)
    (block : Block) (size : ℕ) (old new : NodeState D) : Type 0 where
  pub served : IsOpen faults block old
  pub made : makes old.shelf.written block size ≡ true
  pub held : is_held (node_in old) block ≡ true → HeldBefore block old new
  pub put : is_held (node_in old) block ≡ false
      → Puts told clock image faults block (row_of old.shelf.written block size) old new
  pub written : new.shelf.written ≡ written_besides block old.shelf.written
  pub runs : Runs faults new
  pub id : new.id ≡ old.id
  pub line : new.stopped ≡ old.stopped

-- The block wasn't held. A disk failed: that of the slots, and then the journal is as it was, or the journal, and then it
-- may have one body more.
pub record PutHalts {D : Type 0} (told : D → Option (List ℕ)) (clock : D → ℕ) (image : D → Images) (faults : D → ℕ)
    (block : Block) (row : BlockRow) (old new : NodeState D) (count : ℕ) : Type 0 where
  pub absent : is_held (node_in old) block ≡ false
  pub halts : Halts faults old new count
  pub slots : told (slots_of new) ≡ told (slots_of old)
  pub journal : (new.blocks ≡ old.blocks)
      ⊎ ((own : ℕ) × Changes {T = Unit {0}} (entries.Put block row) old.blocks new.blocks
      (journal_seen told clock image faults old) (journal_seen told clock image faults new) (Err (stops.Stopped own)))

-- There is no memory. What it holds and what was written is as it was.
pub record NoMemory {D : Type 0} (told : D → Option (List ℕ)) (old new : NodeState D) : Type 0 where
  pub node : node_in new ≡ node_in old
  pub written : new.shelf.written ≡ old.shelf.written
  pub journal : meta_of new ≡ meta_of old
  pub slots : told (slots_of new) ≡ told (slots_of old)
  pub halted : is_halted new ≡ is_halted old
  pub id : new.id ≡ old.id
  pub line : new.stopped ≡ old.stopped

-- The chunks that were written don't make so many bytes, and nothing changes.
pub record IsNotMade {D : Type 0} (faults : D → ℕ) (block : Block) (size : ℕ) (old new : NodeState D) : Type 0 where
  pub ran : Runs faults old
  pub made : makes old.shelf.written block size ≡ false
  pub same : new ≡ old

abbrev pub PutEnds : {D T : Type 0} → (D → Option (List ℕ)) → (D → ℕ) → (D → Images) → (D → ℕ) → Block → ℕ
    → NodeState D → NodeState D → Result T NodeRefusal → Type 0
PutEnds told clock image faults block size old new (Ok done) = WasPut told clock image faults block size old new
PutEnds told clock image faults block size old new (Err (refusals.Stopped count)) =
    WasStopped faults old new count
    ⊎ (IsOpen faults block old × (makes old.shelf.written block size ≡ true)
    × PutHalts told clock image faults block (row_of old.shelf.written block size) old new count)
PutEnds told clock image faults block size old new (Err refusals.NoBlock) = IsNotMade faults block size old new
PutEnds told clock image faults block size old new (Err (refusals.NotOpen state)) =
    IsNotOpen faults block old new state × (makes old.shelf.written block size ≡ true)
PutEnds told clock image faults block size old new (Err refusals.OutOfMemory) =
    IsOpen faults block old × (makes old.shelf.written block size ≡ true) × (is_held (node_in old) block ≡ false)
    × NoMemory told old new
PutEnds told clock image faults block size old new (Err (refusals.Full used asked capacity)) = ⊥
PutEnds told clock image faults block size old new (Err (refusals.Bad kept found)) = ⊥

-- the contents of blocks once one was put: a block that was held keeps its own
abbrev pub contents_with : {D : Type 0} → Block → Content → (Block → Content) → NodeState D → Block → Content
contents_with block content contents old = if is_held (node_in old) block then contents else with_content block content contents

-- ---- leaving what was written

-- The chunks that were written of the block are gone and their slots free, and nothing else changes.
pub record Abandons {D : Type 0} (block : Block) (old new : NodeState D) : Type 0 where
  pub written : new.shelf.written ≡ written_besides block old.shelf.written
  pub free : (slot : ℕ) → is_taken new.shelf.slots.taken slot
      ≡ (if any_in (chunks_in (written_of block old.shelf.written)) slot then false
      else is_taken old.shelf.slots.taken slot)
  pub slots : slots_of new ≡ slots_of old
  pub failed : new.shelf.failed ≡ old.shelf.failed
  pub same : new ≡ record old { shelf = new.shelf }
