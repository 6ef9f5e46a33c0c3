-- For private calls: what they answer of a disk that fails, the slots that the blocks of a load use, and what a put comes
-- to once its chunks are known to make the block.
use Rattle.std.specs.Prelude.{◌≡◌, ℕ, ◌*◌, ◌<◌, ◌≤◌, length, take, ◌||◌, Bool, true, false, ◌&&◌, nat_lt, List, Option, Some, Result, Ok, Err}
use Rattle.oz_block.specs.Blocks.{StandsFor}
use Rattle.oz_chunk.specs.declared.fault.SlotFault.{SlotFault}
use Rattle.oz_chunk.specs.declared.fault.SlotFault.TheVariants as slots
use Rattle.oz_journal.specs.declared.load_fault.LoadFault.{LoadFault}
use Rattle.oz_journal.specs.declared.load_fault.LoadFault.TheVariants as loads
use Rattle.oz_datanode.specs.declared.fault.NodeFault.{NodeFault}
use Rattle.oz_datanode.specs.declared.fault.NodeFault.TheVariants as nodes
use Rattle.oz_chunk.specs.declared.table.TheConstants.{SLOTS, SLOT_SIZE, CAPACITY}
use Rattle.oz_entries.specs.Held.{any_in}
use Rattle.oz_entries.specs.Node.{Node, is_used, chunk_count}
use Rattle.oz_entries.specs.declared.row.BlockRow.{BlockRow}
use Rattle.oz_fields.specs.declared.block.Block.{Block}
use Rattle.oz_block.specs.shelf.Written.{chunks_in, written_of, written_besides}
use Rattle.oz_world.specs.Disk.{Images, Seen, IsStable}
use Rattle.oz_datanode.specs.Datanode.{State, Runs, DisksGoOn, node_in, slots_of, is_halted, count_of}
use Rattle.oz_datanode.specs.Pairs.{Content, NodeHolds}
use Rattle.oz_datanode.specs.Writing.{Puts, PutHalts, NoMemory, Wrote, WriteHalts, IsFull, MakeBytes}
use Rattle.oz_world.specs.Faults.{Rose}
use Rattle.oz_datanode.specs.declared.refusal.NodeRefusal.{NodeRefusal}
use Rattle.oz_datanode.specs.declared.refusal.NodeRefusal.TheVariants as refusals

-- a fault of one of the disks, as that of a datanode
abbrev pub journal_fault_of : LoadFault → NodeFault
journal_fault_of loads.Disk = nodes.Disk false
journal_fault_of (loads.Damaged offset) = nodes.Damaged false offset
journal_fault_of loads.OutOfMemory = nodes.OutOfMemory

abbrev pub slot_fault_of : SlotFault → NodeFault
slot_fault_of slots.Disk = nodes.Disk true
slot_fault_of (slots.Past offset) = nodes.Damaged true offset
slot_fault_of slots.OutOfMemory = nodes.OutOfMemory

-- a block uses the slot, and it is one of those that there are
abbrev pub is_in_use : Node → ℕ → Bool
is_in_use node slot = is_used node slot && nat_lt slot SLOTS

-- the block is held, and nothing is written of it any more
pub record Keeps {D : Type 0} (told : D → Option (List ℕ)) (clock : D → ℕ) (image : D → Images) (faults : D → ℕ)
    (block : Block) (row : BlockRow) (old new : State D) : Type 0 where
  pub puts : Puts told clock image faults block row old new
  pub written : new.shelf.written ≡ written_besides block old.shelf.written
  pub runs : Runs faults new
  pub id : new.id ≡ old.id
  pub line : new.stopped ≡ old.stopped

abbrev pub KeepEnds : {D T : Type 0} → (D → Option (List ℕ)) → (D → ℕ) → (D → Images) → (D → ℕ) → Block → BlockRow
    → State D → State D → Result T NodeRefusal → Type 0
KeepEnds told clock image faults block row old new (Ok done) = Keeps told clock image faults block row old new
KeepEnds told clock image faults block row old new (Err (refusals.Stopped count)) =
    PutHalts told clock image faults block row old new count
KeepEnds told clock image faults block row old new (Err refusals.OutOfMemory) = NoMemory told old new
KeepEnds told clock image faults block row old new (Err refusals.NoBlock) = ⊥
KeepEnds told clock image faults block row old new (Err (refusals.NotOpen state)) = ⊥
KeepEnds told clock image faults block row old new (Err (refusals.Full used asked capacity)) = ⊥
KeepEnds told clock image faults block row old new (Err (refusals.Bad kept found)) = ⊥

-- writing a chunk, once it is known that the replica takes it
abbrev pub PartEnds : {D T : Type 0} → (D → Option (List ℕ)) → (D → ℕ) → Block → ℕ → List ℕ → State D → State D
    → Result T NodeRefusal → Type 0
PartEnds told faults block place bytes old new (Ok done) = Wrote told faults block place bytes old new
PartEnds told faults block place bytes old new (Err (refusals.Stopped count)) = WriteHalts faults old new count
PartEnds told faults block place bytes old new (Err (refusals.Full used asked capacity)) =
    IsFull old new used asked capacity
PartEnds told faults block place bytes old new (Err refusals.OutOfMemory) = new ≡ old
PartEnds told faults block place bytes old new (Err refusals.NoBlock) = ⊥
PartEnds told faults block place bytes old new (Err (refusals.NotOpen state)) = ⊥
PartEnds told faults block place bytes old new (Err (refusals.Bad kept found)) = ⊥

-- the journal stands for what is held, and a stop leaves just that
abbrev pub AtRest : Node → Seen → Type 0
AtRest node journal =
    (bytes : List ℕ) → journal.told ≡ Some bytes → StandsFor bytes node × IsStable journal.image journal.clock bytes

-- ---- copying

-- the chunks of a block are written up to this place, and nothing else has changed
pub record FilledTo {D : Type 0} (told : D → Option (List ℕ)) (clock : D → ℕ) (image : D → Images) (faults : D → ℕ)
    (block : Block) (bytes : List ℕ) (place : ℕ) (old now : State D) : Type 0 where
  pub same : now ≡ record old { shelf = now.shelf }
  pub runs : Runs faults now
  pub made : MakeBytes told block (take (place * SLOT_SIZE) bytes) now.shelf
  pub others : written_besides block now.shelf.written ≡ written_besides block old.shelf.written
  pub goes_on : DisksGoOn told faults old now
  pub holds : (contents : Block → Content) → NodeHolds told clock image faults contents old
      → NodeHolds told clock image faults contents now

-- all of them are
pub record Filled {D : Type 0} (told : D → Option (List ℕ)) (faults : D → ℕ) (block : Block) (bytes : List ℕ)
    (old new : State D) : Type 0 where
  pub same : new ≡ record old { shelf = new.shelf }
  pub runs : Runs faults new
  pub made : MakeBytes told block bytes new.shelf
  pub never_falls : faults (slots_of old) ≤ faults (slots_of new)

-- the disk of slots failed at one of them
pub record FillHalts {D : Type 0} (faults : D → ℕ) (old new : State D) (count : ℕ) : Type 0 where
  pub halted : is_halted new ≡ true
  pub counted : count ≡ count_of faults new
  pub cause : Rose (faults (slots_of old)) (faults (slots_of new))
  pub same : new ≡ record old { shelf = new.shelf }

-- no slot is free for one of them
pub record FillIsFull {D : Type 0} (faults : D → ℕ) (block : Block) (bytes : List ℕ) (old new : State D)
    (in_use wanted in_all : ℕ) : Type 0 where
  pub fewer : length (written_of block new.shelf.written) < chunk_count (length bytes)
  pub whose : (slot : ℕ) → slot < SLOTS
      → (is_used (node_in old) slot || any_in (chunks_in new.shelf.written) slot) ≡ true
  pub used : in_use ≡ CAPACITY
  pub asked : wanted ≡ SLOT_SIZE
  pub capacity : in_all ≡ CAPACITY
  pub same : new ≡ record old { shelf = new.shelf }
  pub runs : Runs faults new

-- there is no memory for one of them
pub record FillLacks {D : Type 0} (faults : D → ℕ) (old new : State D) : Type 0 where
  pub same : new ≡ record old { shelf = new.shelf }
  pub runs : Runs faults new

abbrev pub FillEnds : {D T : Type 0} → (D → Option (List ℕ)) → (D → ℕ) → Block → List ℕ → State D → State D
    → Result T NodeRefusal → Type 0
FillEnds told faults block bytes old new (Ok done) = Filled told faults block bytes old new
FillEnds told faults block bytes old new (Err (refusals.Stopped count)) = FillHalts faults old new count
FillEnds told faults block bytes old new (Err (refusals.Full used asked capacity)) =
    FillIsFull faults block bytes old new used asked capacity
FillEnds told faults block bytes old new (Err refusals.OutOfMemory) = FillLacks faults old new
FillEnds told faults block bytes old new (Err refusals.NoBlock) = ⊥
FillEnds told faults block bytes old new (Err (refusals.NotOpen state)) = ⊥
FillEnds told faults block bytes old new (Err (refusals.Bad kept found)) = ⊥
