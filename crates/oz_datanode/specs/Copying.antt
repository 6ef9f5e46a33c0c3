-- What copying a block does to a datanode, a row for each answer.
use Rattle.std.specs.Prelude.{◌≡◌, ◌⊎◌, ℕ, ◌<◌, true, false, ◌||◌, List, length, Option, Result, Ok, Err, IfSome}
use Rattle.oz_block.specs.Changes.{Changes}
use Rattle.oz_block.specs.declared.fault.BlockFault.TheVariants as stops
use Rattle.oz_chunk.specs.declared.table.TheConstants.{SLOTS, SLOT_SIZE, CAPACITY}
use Rattle.oz_entries.specs.Held.{any_in}
use Rattle.oz_entries.specs.Node.{is_deleted, chunk_count, is_used}
use Rattle.oz_entries.specs.declared.entry.Entry.TheVariants as entries
use Rattle.oz_entries.specs.declared.row.BlockRow.{BlockRow}
use Rattle.oz_entries.specs.declared.row.Chunk.{Chunk}
use Rattle.oz_fields.specs.declared.block.Block.{Block}
use Rattle.oz_block.specs.shelf.Written.{chunks_in, written_besides}
use Rattle.oz_world.specs.Disk.{Images}
use Rattle.oz_world.specs.Faults.{Rose}
use Rattle.oz_datanode.specs.Datanode.{State as NodeState, node_in, meta_of, slots_of, is_halted, count_of, Runs}
use Rattle.oz_datanode.specs.Pairs.{Has, journal_seen}
use Rattle.oz_datanode.specs.Writing.{state_for, intact}
use Rattle.oz_datanode.specs.declared.refusal.NodeRefusal.{NodeRefusal}
use Rattle.oz_datanode.specs.declared.refusal.NodeRefusal.TheVariants as refusals

-- Neither a line nor a disk has stopped it, and the replica is there.
pub record IsThere {D : Type 0} (faults : D → ℕ) (block : Block) (old : NodeState D) : Type 0 where
  pub ran : Runs faults old
  pub is : is_deleted (state_for old block) ≡ false

-- The block is held with these bytes, which were stable before, by one body more.
pub record Copies {D : Type 0} (told : D → Option (List ℕ)) (clock : D → ℕ) (image : D → Images) (faults : D → ℕ)
    (block : Block) (bytes : List ℕ) (old new : NodeState D) : Type 0 where
  pub row : BlockRow
  pub size : row.length ≡ length bytes
  pub has : IfSome (told (slots_of new)) (Has (intact bytes) row)
  pub changed : Changes {T = Unit {0}} (entries.Put block row) old.blocks new.blocks
      (journal_seen told clock image faults old) (journal_seen told clock image faults new) (Ok tt)
  pub runs : Runs faults new
  pub id : new.id ≡ old.id
  pub line : new.stopped ≡ old.stopped

-- One of its disks failed. The journal is as it was, or it may have one body more, and then the bytes are stable.
pub record CopyHalts {D : Type 0} (told : D → Option (List ℕ)) (clock : D → ℕ) (image : D → Images) (faults : D → ℕ)
    (block : Block) (bytes : List ℕ) (old new : NodeState D) (count : ℕ) : Type 0 where
  pub halted : is_halted new ≡ true
  pub counted : count ≡ count_of faults new
  pub cause : Rose (faults (meta_of old)) (faults (meta_of new)) ⊎ Rose (faults (slots_of old)) (faults (slots_of new))
  pub node : node_in new ≡ node_in old
  pub journal : (new.blocks ≡ old.blocks)
      ⊎ ((row : BlockRow) × (own : ℕ) × (row.length ≡ length bytes)
      × IfSome (told (slots_of new)) (Has (intact bytes) row)
      × Changes {T = Unit {0}} (entries.Put block row) old.blocks new.blocks
      (journal_seen told clock image faults old) (journal_seen told clock image faults new) (Err (stops.Stopped own)))
  pub id : new.id ≡ old.id
  pub line : new.stopped ≡ old.stopped

-- Blocks, what was written of other blocks and some of the chunks, but not all, take all slots. What is held is as it was.
pub record CopyIsFull {D : Type 0} (faults : D → ℕ) (block : Block) (bytes : List ℕ) (old new : NodeState D)
    (in_use wanted in_all : ℕ) : Type 0 where
  pub chunks : List Chunk
  pub fewer : length chunks < chunk_count (length bytes)
  pub full : (slot : ℕ) → slot < SLOTS
      → (is_used (node_in old) slot || any_in (chunks_in (written_besides block old.shelf.written)) slot
      || any_in chunks slot) ≡ true
  pub used : in_use ≡ CAPACITY
  pub asked : wanted ≡ SLOT_SIZE
  pub capacity : in_all ≡ CAPACITY
  pub blocks : new.blocks ≡ old.blocks
  pub runs : Runs faults new
  pub id : new.id ≡ old.id
  pub line : new.stopped ≡ old.stopped

-- There is no memory. What is held is as it was.
pub record CopyLacks {D : Type 0} (faults : D → ℕ) (old new : NodeState D) : Type 0 where
  pub node : node_in new ≡ node_in old
  pub journal : meta_of new ≡ meta_of old
  pub runs : Runs faults new
  pub id : new.id ≡ old.id
  pub line : new.stopped ≡ old.stopped

-- what comes of a copy into a replica that is there
abbrev pub CopyGoes : {D T : Type 0} → (D → Option (List ℕ)) → (D → ℕ) → (D → Images) → (D → ℕ) → Block → List ℕ
    → NodeState D → NodeState D → Result T NodeRefusal → Type 0
CopyGoes told clock image faults block bytes old new (Ok done) = Copies told clock image faults block bytes old new
CopyGoes told clock image faults block bytes old new (Err (refusals.Stopped count)) =
    CopyHalts told clock image faults block bytes old new count
CopyGoes told clock image faults block bytes old new (Err (refusals.Full used asked capacity)) =
    CopyIsFull faults block bytes old new used asked capacity
CopyGoes told clock image faults block bytes old new (Err refusals.OutOfMemory) = CopyLacks faults old new
CopyGoes told clock image faults block bytes old new (Err (refusals.NotOpen state)) = ⊥
CopyGoes told clock image faults block bytes old new (Err refusals.NoBlock) = ⊥
CopyGoes told clock image faults block bytes old new (Err (refusals.Bad kept found)) = ⊥
