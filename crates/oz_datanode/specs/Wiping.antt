-- What a wipe does to a datanode.
use Rattle.std.specs.Prelude.{◌≡◌, ℕ, true, false, List, [], Some, Result, Ok, Err}
use Rattle.oz_block.specs.Blocks.{StandsFor}
use Rattle.oz_block.specs.Changes.{Wipes as WipesBlocks}
use Rattle.oz_chunk.specs.Disk.{Empties}
use Rattle.oz_chunk.specs.Taken.{is_taken}
use Rattle.oz_world.specs.Disk.{Seen}
use Rattle.oz_world.specs.Faults.{Rose}
use Rattle.oz_world.specs.declared.failed.Failed.{Failed}
use Rattle.oz_datanode.specs.declared.refusal.NodeRefusal.{NodeRefusal}
use Rattle.oz_datanode.specs.declared.refusal.NodeRefusal.TheVariants as refusals
use Rattle.oz_datanode.specs.Datanode.{State, node_in, is_halted, count_of}

-- Nothing is held, each replica is open, nothing was written, and no slot is taken. Both disks were emptied, the journal
-- first, and that is stable. What the journal tells stands for that.
pub record Wiped {D : Type 0} (old new : State D) (journal emptied slots cut : Seen) : Type 0 where
  pub blocks : WipesBlocks {T = Unit {0}} old.blocks new.blocks journal emptied (Ok tt)
  pub stands : (bytes : List ℕ) → emptied.told ≡ Some bytes → StandsFor bytes (node_in new)
  pub shelf : Empties {T = Unit {0}} {E = Failed} slots cut (Ok tt)
  pub free : (slot : ℕ) → is_taken new.shelf.slots.taken slot ≡ false
  pub written : new.shelf.written ≡ []
  pub runs : is_halted new ≡ false

-- One of the disks failed: the journal, and then the slots weren't touched, or that of the slots, and then nothing is
-- held any more.
pub record WipeHalts {D : Type 0} (faults : D → ℕ) (count : ℕ) (old new : State D)
    (journal emptied slots cut : Seen) : Type 0 where
  pub halted : is_halted new ≡ true
  pub counted : count ≡ count_of faults new
  pub written : new.shelf.written ≡ old.shelf.written
  pub journal_failed : new.blocks.stopped ≡ true →
      Rose journal.faults emptied.faults × (node_in new ≡ node_in old) × (new.shelf ≡ old.shelf)
  pub slots_failed : new.blocks.stopped ≡ false →
      Rose slots.faults cut.faults × WipesBlocks {T = Unit {0}} old.blocks new.blocks journal emptied (Ok tt)

abbrev pub Ends : {D T : Type 0} → (D → ℕ) → State D → State D → Seen → Seen → Seen → Seen → Result T NodeRefusal → Type 0
Ends faults old new journal emptied slots cut (Ok done) = Wiped old new journal emptied slots cut
Ends faults old new journal emptied slots cut (Err (refusals.Stopped count)) =
    WipeHalts faults count old new journal emptied slots cut
Ends faults old new journal emptied slots cut (Err (refusals.Full used asked capacity)) = ⊥
Ends faults old new journal emptied slots cut (Err (refusals.NotOpen state)) = ⊥
Ends faults old new journal emptied slots cut (Err refusals.NoBlock) = ⊥
Ends faults old new journal emptied slots cut (Err (refusals.Bad kept found)) = ⊥
Ends faults old new journal emptied slots cut (Err refusals.OutOfMemory) = ⊥

-- A call that is to take everything away. Its number and whether a line stopped it stay.
pub record Wipes {D T : Type 0} (faults : D → ℕ) (old new : State D) (journal emptied slots cut : Seen)
    (result : Result T NodeRefusal) : Type 0 where
  pub ends : Ends faults old new journal emptied slots cut result
  pub id : new.id ≡ old.id
  pub line : new.stopped ≡ old.stopped
