-- What a change in the journal and a wipe of both disks do to a datanode, whatever comes of the call.
use Rattle.std.specs.Prelude.{◌≡◌, ℕ, ◌+◌, Bool, false, not, ◌&&◌, List, [], ◌∷◌, Result, Ok, Err, if◌then◌else◌, ◌==◌}
use Rattle.std.specs.List.{list_any}
use Rattle.oz_block.specs.Changes.{Changes}
use Rattle.oz_block.specs.declared.fault.BlockFault.{BlockFault}
use Rattle.oz_block.specs.declared.fault.BlockFault.TheVariants as blocks
use Rattle.oz_chunk.specs.Taken.{is_taken}
use Rattle.oz_entries.specs.declared.entry.Entry.{Entry}
use Rattle.oz_entries.specs.Held.{is_freed}
use Rattle.oz_entries.specs.Node.{Node, is_held}
use Rattle.oz_fields.specs.declared.block.Block.{Block}
use Rattle.oz_block.specs.shelf.Shelf.{ShelfView}
use Rattle.oz_world.specs.Disk.{Seen}
use Rattle.oz_datanode.specs.declared.refusal.NodeRefusal.{NodeRefusal}
use Rattle.oz_datanode.specs.declared.refusal.NodeRefusal.TheVariants as refusals
use Rattle.oz_datanode.specs.Datanode.{State, count_of}

-- what a datanode answers where its journal answers this: the count is that of both disks
abbrev pub refusal_of : ℕ → BlockFault → NodeRefusal
refusal_of count (blocks.Stopped own) = refusals.Stopped count
refusal_of count blocks.OutOfMemory = refusals.OutOfMemory

abbrev pub answer_of : {T : Type 0} → ℕ → Result T BlockFault → Result T NodeRefusal
answer_of count (Ok x) = Ok x
answer_of count (Err fault) = Err (refusal_of count fault)

-- A call that is to make a change in the journal which this entry names. It answers as the journal does.
pub record IsJournaled {D T : Type 0} (faults : D → ℕ) (entry : Entry) (old new : State D) (before after : Seen)
    (result : Result T NodeRefusal) : Type 0 where
  pub answer : Result T BlockFault
  pub changes : Changes entry old.blocks new.blocks before after answer
  pub answers : result ≡ answer_of (count_of faults new) answer
  pub id : new.id ≡ old.id
  pub line : new.stopped ≡ old.stopped

-- how many blocks of a container are held, by their own numbers; one that is named more often counts once
abbrev pub held_count : Node → ℕ → List ℕ → ℕ
held_count node container [] = 0
held_count node container (local ∷ locals) =
    (if is_held node (record { container = container; local = local }) && not (list_any (λ other. other == local) locals)
    then 1 else 0) + held_count node container locals

-- The slots of blocks that go are free. Nothing else changes on the shelf.
pub record Frees {D : Type 0} (is_gone : Block → Bool) (node : Node) (old new : ShelfView D) : Type 0 where
  pub free : (slot : ℕ) → is_taken new.slots.taken slot
      ≡ (if is_freed is_gone (node.users slot) then false else is_taken old.slots.taken slot)
  pub disk : new.slots.disk ≡ old.slots.disk
  pub written : new.written ≡ old.written
  pub failed : new.failed ≡ old.failed
