-- What the calls at one datanode come to, before it is noted. For private calls.
use Rattle.std.specs.Prelude.{◌≡◌, ◌⊎◌, ℕ, ◌*◌, ◌≤◌, Bool, true, false, List, [], length, take, Option, Some, Result, Ok, Err}
use Rattle.oz_chunk.specs.declared.table.TheConstants.{SLOT_SIZE}
use Rattle.oz_core.specs.declared.event.PutRefusal.TheVariants as reasons
use Rattle.oz_datanode.specs.Datanode.{State, Runs, DisksGoOn, stop_of}
use Rattle.oz_datanode.specs.Pairs.{Content, NodeHolds}
use Rattle.oz_datanode.specs.Writing.{IsOpen, MakeBytes, NoMemory}
use Rattle.oz_datanode.specs.declared.refusal.NodeRefusal.{NodeRefusal}
use Rattle.oz_datanode.specs.declared.refusal.NodeRefusal.TheVariants as refusals
use Rattle.oz_fields.specs.declared.block.Block.{Block}
use Rattle.oz_replicas.specs.Outcomes.{IsPut, IsFull, IsShut, IsReason, Halts, FindsBad, IsAbsent, HasOther}
use Rattle.oz_replicas.specs.Stays.{Stays}
use Rattle.oz_replicas.specs.declared.unput.Unput.{Unput}
use Rattle.oz_replicas.specs.declared.unput.Unput.TheVariants as unput
use Rattle.oz_replicas.specs.declared.unread.Unread.{Unread}
use Rattle.oz_replicas.specs.declared.unread.Unread.TheVariants as unread
use Rattle.oz_block.specs.shelf.Shelf.{ShelfView}
use Rattle.oz_block.specs.shelf.Written.{written_of, written_besides}
use Rattle.oz_world.specs.Disk.{Images}

-- ---- writing

-- the chunks that were written are of this block
abbrev pub AreOf : {D : Type 0} → Block → ShelfView D → Type 0
AreOf block shelf = written_besides block shelf.written ≡ []

-- the chunks of a block are written up to this place, and nothing else has changed
pub record WrittenTo {D : Type 0} (told : D → Option (List ℕ)) (clock : D → ℕ) (image : D → Images) (faults : D → ℕ)
    (block : Block) (bytes : List ℕ) (place : ℕ) (old now : State D) : Type 0 where
  pub same : now ≡ record old { shelf = now.shelf }
  pub own : AreOf block now.shelf
  pub count : length (written_of block now.shelf.written) ≤ place
  pub made : ((place ≡ 0) × (now ≡ old))
      ⊎ (IsOpen faults block old × Runs faults now × MakeBytes told block (take (place * SLOT_SIZE) bytes) now.shelf)
  pub holds : (contents : Block → Content) → NodeHolds told clock image faults contents old
      → NodeHolds told clock image faults contents now
  pub goes_on : DisksGoOn told faults old now

-- what a refused call at a datanode comes to
abbrev pub GivesUp : {D : Type 0} → (D → Option (List ℕ)) → (D → ℕ) → (D → Images) → (D → ℕ) → Block → List ℕ
    → NodeRefusal → State D → State D → Type 0
GivesUp told clock image faults block bytes (refusals.Stopped count) old new =
    ((stop_of faults old ≡ Some count) × (new ≡ old)) ⊎ Halts told clock image faults block bytes old new count
GivesUp told clock image faults block bytes (refusals.Full used asked capacity) old new =
    IsFull faults block bytes old used asked capacity × (new ≡ old)
GivesUp told clock image faults block bytes (refusals.NotOpen state) old new =
    IsShut faults block old state × (new ≡ old)
GivesUp told clock image faults block bytes refusals.OutOfMemory old new =
    (new ≡ old) ⊎ (Runs faults old × NoMemory told old new × DisksGoOn told faults old new)
GivesUp told clock image faults block bytes refusals.NoBlock old new = ⊥
GivesUp told clock image faults block bytes (refusals.Bad kept found) old new = ⊥

-- the chunks are written, or the call at one of them was refused
abbrev pub FillGoes : {D T : Type 0} → (D → Option (List ℕ)) → (D → ℕ) → (D → Images) → (D → ℕ) → Block → List ℕ
    → State D → State D → Result T NodeRefusal → Type 0
FillGoes told clock image faults block bytes old new (Ok done) =
    Stays told clock image faults old new × IsOpen faults block new × MakeBytes told block bytes new.shelf
FillGoes {D} told clock image faults block bytes old new (Err refusal) =
    (before : State D) × (Stays told clock image faults old before
    × GivesUp told clock image faults block bytes refusal before new)

-- the block is put, or one of the calls was refused
abbrev pub PutGoes : {D T : Type 0} → (D → Option (List ℕ)) → (D → ℕ) → (D → Images) → (D → ℕ) → Block → List ℕ
    → State D → State D → Result T NodeRefusal → Type 0
PutGoes {D} told clock image faults block bytes old new (Ok done) =
    (before : State D) × (Stays told clock image faults old before
    × IsPut told clock image faults block bytes before new)
PutGoes {D} told clock image faults block bytes old new (Err refusal) =
    (before : State D) × (Stays told clock image faults old before
    × GivesUp told clock image faults block bytes refusal before new)

-- what a refusal says where one of the disks failed in the call, and where none did
abbrev pub unput_of : Bool → NodeRefusal → Unput
unput_of true (refusals.Stopped count) = unput.Halted count
unput_of false (refusals.Stopped count) = unput.Refused (reasons.Stopped count)
unput_of halts (refusals.Full used asked capacity) = unput.Refused (reasons.Full used asked capacity)
unput_of halts (refusals.NotOpen state) = unput.Refused (reasons.NotOpen state)
unput_of halts refusals.NoBlock = unput.OutOfMemory
unput_of halts (refusals.Bad kept found) = unput.OutOfMemory
unput_of halts refusals.OutOfMemory = unput.OutOfMemory

-- and then its chunks are abandoned
abbrev pub WriteGoes : {D T : Type 0} → (D → Option (List ℕ)) → (D → ℕ) → (D → Images) → (D → ℕ) → Block → List ℕ
    → State D → State D → Result T Unput → Type 0
WriteGoes {D} told clock image faults block bytes old new (Ok done) =
    (before : State D) × (Stays told clock image faults old before
    × IsPut told clock image faults block bytes before new)
WriteGoes {D} told clock image faults block bytes old new (Err (unput.Refused refusal)) =
    (before : State D) × (Stays told clock image faults old before × IsReason faults block bytes before refusal
    × Stays told clock image faults before new)
WriteGoes {D} told clock image faults block bytes old new (Err (unput.Halted count)) =
    (before : State D) × ((after : State D) × (Stays told clock image faults old before
    × Halts told clock image faults block bytes before after count × Stays told clock image faults after new))
WriteGoes told clock image faults block bytes old new (Err unput.OutOfMemory) = Stays told clock image faults old new

-- ---- reading

-- what a refusal says where the disk of slots failed in the call, and where it didn't
abbrev pub unread_of : Bool → NodeRefusal → Unread
unread_of true (refusals.Stopped count) = unread.Halted count
unread_of false (refusals.Stopped count) = unread.Stopped count
unread_of halts (refusals.Bad kept found) = unread.Bad
unread_of halts refusals.OutOfMemory = unread.OutOfMemory
unread_of halts refusals.NoBlock = unread.Absent
unread_of halts (refusals.Full used asked capacity) = unread.Absent
unread_of halts (refusals.NotOpen state) = unread.Absent

-- why so many bytes of a block weren't read
abbrev pub Loses : {D : Type 0} → (D → Option (List ℕ)) → (D → ℕ) → (D → Images) → (D → ℕ) → Block → ℕ
    → State D → State D → Unread → Type 0
Loses told clock image faults block size old new (unread.Stopped count) =
    (stop_of faults old ≡ Some count) × (new ≡ old)
Loses told clock image faults block size old new (unread.Halted count) =
    (bytes : List ℕ) → Halts told clock image faults block bytes old new count
Loses told clock image faults block size old new unread.Bad = FindsBad told clock image faults block old new
Loses told clock image faults block size old new unread.Absent =
    Stays told clock image faults old new
    × (IsAbsent faults block old ⊎ HasOther told faults block size old new)
Loses told clock image faults block size old new unread.OutOfMemory = Stays told clock image faults old new
