-- What comes of writing a block at a datanode and of reading it there, each as the calls that are noted see it.
use Rattle.std.specs.Prelude.{◌≡◌, ◌≢◌, ◌⊎◌, ℕ, ◌<◌, true, false, ◌||◌, List, length, Option, Some, Err, IfSome}
use Rattle.oz_block.specs.Changes.{Changes}
use Rattle.oz_block.specs.declared.fault.BlockFault.TheVariants as stops
use Rattle.oz_chunk.specs.declared.table.TheConstants.{SLOTS, SLOT_SIZE, CAPACITY}
use Rattle.oz_container.specs.declared.state.State.{State}
use Rattle.oz_core.specs.declared.event.PutRefusal.{PutRefusal}
use Rattle.oz_core.specs.declared.event.PutRefusal.TheVariants as refusals
use Rattle.oz_datanode.specs.Copying.{Copies}
use Rattle.oz_datanode.specs.Datanode.{State as NodeState, DisksGoOn, node_in, meta_of, slots_of, is_halted, count_of, stop_of, Runs}
use Rattle.oz_datanode.specs.Pairs.{Content, Has, NodeHolds, journal_seen, with_content}
use Rattle.oz_datanode.specs.Reading.{IsRead, IsBad}
use Rattle.oz_datanode.specs.Writing.{IsOpen, intact, is_open, state_for}
use Rattle.oz_entries.specs.Held.{any_in}
use Rattle.oz_entries.specs.Node.{chunk_count, is_held, is_used}
use Rattle.oz_entries.specs.declared.entry.Entry.TheVariants as entries
use Rattle.oz_entries.specs.declared.row.BlockRow.{BlockRow}
use Rattle.oz_entries.specs.declared.row.Chunk.{Chunk}
use Rattle.oz_fields.specs.declared.block.Block.{Block}
use Rattle.oz_replicas.specs.Stays.{Stays}
use Rattle.oz_world.specs.Disk.{Images}
use Rattle.oz_world.specs.Faults.{Rose}

-- It runs, the replica is open, and it has the block.
pub record HasAlready {D : Type 0} (faults : D → ℕ) (block : Block) (node : NodeState D) : Type 0 where
  pub served : IsOpen faults block node
  pub held : is_held (node_in node) block ≡ true

-- It runs, the replica is open, and it hasn't the block.
pub record Takes {D : Type 0} (faults : D → ℕ) (block : Block) (node : NodeState D) : Type 0 where
  pub served : IsOpen faults block node
  pub absent : is_held (node_in node) block ≡ false

-- The block came to be held with these bytes.
pub record IsPut {D : Type 0} (told : D → Option (List ℕ)) (clock : D → ℕ) (image : D → Images) (faults : D → ℕ)
    (block : Block) (bytes : List ℕ) (old new : NodeState D) : Type 0 where
  pub took : Takes faults block old
  pub held : Copies told clock image faults block bytes old new
  pub holds : (contents : Block → Content) → NodeHolds told clock image faults contents old
      → NodeHolds told clock image faults (with_content block (intact bytes) contents) new
  pub goes_on : DisksGoOn told faults old new

-- Each slot is taken, by a block or by one of so few chunks of this one that it isn't whole.
pub record IsFull {D : Type 0} (faults : D → ℕ) (block : Block) (bytes : List ℕ) (node : NodeState D)
    (in_use wanted in_all : ℕ) : Type 0 where
  pub took : Takes faults block node
  pub chunks : List Chunk
  pub fewer : length chunks < chunk_count (length bytes)
  pub full : (slot : ℕ) → slot < SLOTS → (is_used (node_in node) slot || any_in chunks slot) ≡ true
  pub used : in_use ≡ CAPACITY
  pub asked : wanted ≡ SLOT_SIZE
  pub capacity : in_all ≡ CAPACITY

-- It runs, and the replica is in this state and not open.
pub record IsShut {D : Type 0} (faults : D → ℕ) (block : Block) (node : NodeState D) (state : State) : Type 0 where
  pub ran : Runs faults node
  pub is : state ≡ state_for node block
  pub not_open : is_open state ≡ false

-- why a datanode doesn't take a block of these bytes
abbrev pub IsReason : {D : Type 0} → (D → ℕ) → Block → List ℕ → NodeState D → PutRefusal → Type 0
IsReason faults block bytes node (refusals.Stopped count) = stop_of faults node ≡ Some count
IsReason faults block bytes node (refusals.Full used asked capacity) = IsFull faults block bytes node used asked capacity
IsReason faults block bytes node (refusals.NotOpen state) = IsShut faults block node state

-- ---- disks that fail

-- No call was made that changes what is held.
pub record OnlySlots {D : Type 0} (told : D → Option (List ℕ)) (clock : D → ℕ) (image : D → Images) (faults : D → ℕ)
    (old new : NodeState D) : Type 0 where
  pub blocks : new.blocks ≡ old.blocks
  pub holds : (contents : Block → Content) → NodeHolds told clock image faults contents old
      → NodeHolds told clock image faults contents new

-- The block was to be put: the journal is as it was, or it may have one body more, and the bytes are there.
pub record MayBePut {D : Type 0} (told : D → Option (List ℕ)) (clock : D → ℕ) (image : D → Images) (faults : D → ℕ)
    (block : Block) (bytes : List ℕ) (old new : NodeState D) : Type 0 where
  pub took : Takes faults block old
  pub row : BlockRow
  pub size : row.length ≡ length bytes
  pub has : IfSome (told (slots_of new)) (Has (intact bytes) row)
  pub journal : (new.blocks ≡ old.blocks)
      ⊎ ((own : ℕ) × Changes {T = Unit {0}} (entries.Put block row) old.blocks new.blocks
      (journal_seen told clock image faults old) (journal_seen told clock image faults new) (Err (stops.Stopped own)))
  pub holds : (contents : Block → Content) → NodeHolds told clock image faults contents old
      → NodeHolds told clock image faults (with_content block (intact bytes) contents) new

-- A disk of a datanode that ran failed in the call. What is held is as it was.
pub record Halts {D : Type 0} (told : D → Option (List ℕ)) (clock : D → ℕ) (image : D → Images) (faults : D → ℕ)
    (block : Block) (bytes : List ℕ) (old new : NodeState D) (count : ℕ) : Type 0 where
  pub ran : Runs faults old
  pub halted : is_halted new ≡ true
  pub counted : count ≡ count_of faults new
  pub cause : Rose (faults (meta_of old)) (faults (meta_of new)) ⊎ Rose (faults (slots_of old)) (faults (slots_of new))
  pub node : node_in new ≡ node_in old
  pub id : new.id ≡ old.id
  pub line : new.stopped ≡ old.stopped
  pub disks : OnlySlots told clock image faults old new ⊎ MayBePut told clock image faults block bytes old new
  pub goes_on : DisksGoOn told faults old new

-- ---- reading

-- These bytes were read, as many as that, with the digests that are kept.
pub record Gives {D : Type 0} (told : D → Option (List ℕ)) (clock : D → ℕ) (image : D → Images) (faults : D → ℕ)
    (block : Block) (size : ℕ) (bytes : List ℕ) (old new : NodeState D) : Type 0 where
  pub read : IsRead told faults block bytes old new
  pub whole : length bytes ≡ size
  pub stays : Stays told clock image faults old new

-- A chunk of the block hasn't the digest that is kept of it.
pub record FindsBad {D : Type 0} (told : D → Option (List ℕ)) (clock : D → ℕ) (image : D → Images) (faults : D → ℕ)
    (block : Block) (old new : NodeState D) : Type 0 where
  pub kept : List ℕ
  pub found : List ℕ
  pub bad : IsBad told faults block kept found old new
  pub stays : Stays told clock image faults old new

-- It runs, and the block isn't held.
pub record IsAbsent {D : Type 0} (faults : D → ℕ) (block : Block) (node : NodeState D) : Type 0 where
  pub ran : Runs faults node
  pub absent : is_held (node_in node) block ≡ false

-- The block has another length.
pub record HasOther {D : Type 0} (told : D → Option (List ℕ)) (faults : D → ℕ) (block : Block) (size : ℕ)
    (old new : NodeState D) : Type 0 where
  pub bytes : List ℕ
  pub read : IsRead told faults block bytes old new
  pub other : length bytes ≢ size
