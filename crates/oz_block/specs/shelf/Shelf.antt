-- What is seen of the slots of a datanode and of what was written to them, and when both are in order.
use Rattle.std.specs.Prelude.{◌≡◌, ℕ, ◌<◌, ◌==◌, Bool, true, false, List, length, filter, Option, Result, Ok, Err, IfSome, if◌then◌else◌}
use Rattle.oz_chunk.specs.declared.fault.SlotFault.{SlotFault}
use Rattle.oz_chunk.specs.Slots.{State as Slots, IsWithin, Keeps, slot_bytes, padded}
use Rattle.oz_chunk.specs.Taken.{is_taken, AllTakenBelow}
use Rattle.oz_chunk.specs.declared.table.TheConstants.{SLOTS}
use Rattle.oz_entries.specs.Held.{any_in}
use Rattle.oz_entries.specs.Node.{HaveFreeSlots, or_slots}
use Rattle.oz_fields.specs.declared.block.Block.{Block}
use Rattle.oz_world.specs.Disk.{Seen}
use Rattle.sha2.specs.Sha256.{sha256}
use Rattle.oz_block.specs.declared.shelf.written.Written.{Written}
use Rattle.oz_block.specs.shelf.Written.{with_written, is_at, chunks_in}

-- the slots, the chunks that were written of blocks and not put, and whether a call on the disk of slots has failed
pub record ShelfView (D : Type 0) : Type 0 where
  pub slots : Slots D
  pub written : List Written
  pub failed : Bool

-- A chunk was written to the lowest free slot, in which it stands now, and is listed with its SHA-256. Where one was
-- written before to the same place of the block, this one is listed instead, and the slot of that one is free.
pub record IsWritten {D : Type 0} (block : Block) (place : ℕ) (bytes : List ℕ) (old new : ShelfView D)
    (told : Option (List ℕ)) : Type 0 where
  pub slot : ℕ
  pub there : slot < SLOTS
  pub free : is_taken old.slots.taken slot ≡ false
  pub lowest : AllTakenBelow slot old.slots.taken
  pub listed : new.written ≡ with_written old.written (record {
    block = block;
    place = place;
    size = length bytes;
    chunk = record { slot = slot; digest = sha256 bytes };
  })
  pub taken : (other : ℕ) → is_taken new.slots.taken other
      ≡ (if any_in (chunks_in (filter (is_at block place) old.written)) other then false
      else (if other == slot then true else is_taken old.slots.taken other))
  pub within : IfSome told (IsWithin slot)
  pub stands : IfSome told (λ disk. slot_bytes slot disk ≡ padded bytes)

-- what stood in these slots stands there still
abbrev pub KeepsTold : (ℕ → Bool) → Option (List ℕ) → Option (List ℕ) → Type 0
KeepsTold kept before after = IfSome before (λ old. IfSome after (λ new. Keeps kept old new))

-- these slots have in both what they have in the first
abbrev pub HaveSame : (ℕ → Bool) → List ℕ → List ℕ → Type 0
HaveSame kept bytes other =
    (slot : ℕ) → kept slot ≡ true
    → IsWithin slot bytes × IsWithin slot other × (slot_bytes slot other ≡ slot_bytes slot bytes)

-- what stands in these slots would stand there too if the disk stopped now
abbrev pub AreSettled : (ℕ → Bool) → Seen → Type 0
AreSettled kept disk =
    IfSome disk.told (λ bytes. (left : List ℕ) → disk.image disk.clock left → HaveSame kept bytes left)

-- Beside the slots that blocks use, those of the chunks that were written are taken, and no others; each of these chunks
-- has one of its own. All of them lie within the disk, and what stands in those that blocks use is stable.
pub record Rests {D : Type 0} (used : ℕ → Bool) (shelf : ShelfView D) (disk : Seen) : Type 0 where
  pub free : HaveFreeSlots used (chunks_in shelf.written)
  pub taken : (slot : ℕ) → is_taken shelf.slots.taken slot ≡ or_slots used (chunks_in shelf.written) slot
  pub within : IfSome disk.told (λ bytes. (slot : ℕ) → is_taken shelf.slots.taken slot ≡ true → IsWithin slot bytes)
  pub settled : AreSettled used disk

-- the disk after a load: that of the shelf, or the one that comes back
abbrev pub disk_after : {D : Type 0} → Result (ShelfView D) (D × SlotFault) → D
disk_after (Ok shelf) = shelf.slots.disk
disk_after (Err refused) = refused.0
