-- What a chunk that is written makes of a datanode.
use Rattle.std.proofs.Common.{◌≡◌, inr, Option, Result, Ok, Err, ℕ, ◌<◌, ltb, ◌||◌, ◌&&◌, Bool, true, false, List, filter, refl, sym, ◌∙◌}
use Rattle.oz_chunk.specs.Taken.{is_taken, AllTakenBelow}
use Rattle.oz_entries.specs.Held.{any_in}
use Rattle.oz_entries.specs.Node.{Node, is_used}
use Rattle.oz_fields.specs.declared.block.Block.{Block}
use Rattle.oz_block.specs.shelf.Shelf.{ShelfView, Rests}
use Rattle.oz_block.specs.declared.shelf.written.Written.{Written}
use Rattle.oz_block.specs.shelf.Written.{chunks_in, is_of, written_of}
use Rattle.oz_block.specs.shelf.laws.Parting.{any_of}
use Rattle.oz_world.specs.Disk.{Seen}
use Rattle.oz_datanode.specs.Datanode.{State}
use Rattle.oz_datanode.specs.Steps.{is_in_use, PartEnds}
use Rattle.oz_datanode.specs.Writing.{IsOpen, WriteEnds}
use Rattle.oz_datanode.specs.declared.refusal.NodeRefusal.{NodeRefusal}
use Rattle.oz_datanode.specs.declared.refusal.NodeRefusal.TheVariants as refusals
use Rattle.oz_datanode.proofs.Pairing.{any_taken, taken_whose}

-- who has the slots where none is free
pub full_whose : {D : Type 0} (node : Node) (shelf : ShelfView D) (disk : Seen) → Rests (is_in_use node) shelf disk → AllTakenBelow 16384 shelf.slots.taken → (slot : ℕ) → slot < 16384 → (is_used node slot || any_in (chunks_in shelf.written) slot) ≡ true
full_whose node shelf disk rests full slot small = by (is_used node slot) (ltb slot 16384) (any_in (chunks_in shelf.written) slot) (taken_whose (is_in_use node) (chunks_in shelf.written) slot (sym (rests.taken slot) ∙ full slot small))
  where
    by : (u l a : Bool) → ((u && l) || a) ≡ true → (u || a) ≡ true
    by true l a is = refl
    by false l a is = is

-- a slot of chunks that were written is taken, as those of a block, or those in a place of it
pub taken_at : {D : Type 0} (node : Node) (shelf : ShelfView D) (disk : Seen) → Rests (is_in_use node) shelf disk → (test : Written → Bool) (slot : ℕ) → any_in (chunks_in (filter test shelf.written)) slot ≡ true → is_taken shelf.slots.taken slot ≡ true
taken_at node shelf disk rests test slot has =
    rests.taken slot ∙ any_taken (is_in_use node) (chunks_in shelf.written) slot (any_of test shelf.written slot has)

pub taken_written : {D : Type 0} (node : Node) (shelf : ShelfView D) (disk : Seen) → Rests (is_in_use node) shelf disk → (block : Block) (slot : ℕ) → any_in (chunks_in (written_of block shelf.written)) slot ≡ true → is_taken shelf.slots.taken slot ≡ true
taken_written node shelf disk rests block = taken_at node shelf disk rests (is_of block)

-- ---- a chunk of a replica that takes it

module _ {D T : Type 0} (told : D → Option (List ℕ)) (faults : D → ℕ) (block : Block) (place : ℕ) (bytes : List ℕ) (old new : State D) where
  pub write_ends : (result : Result T NodeRefusal) → IsOpen faults block old → PartEnds told faults block place bytes old new result → WriteEnds told faults block place bytes old new result
  write_ends (Ok done) served ends = (served, ends)
  write_ends (Err (refusals.Stopped count)) served ends = inr (served, ends)
  write_ends (Err (refusals.Full used asked capacity)) served ends = (served, ends)
  write_ends (Err (refusals.NotOpen state)) served ends = absurd ends
  write_ends (Err refusals.NoBlock) served ends = absurd ends
  write_ends (Err (refusals.Bad kept found)) served ends = absurd ends
  write_ends (Err refusals.OutOfMemory) served ends = (served, ends)

abbrev pub with_shelf : {D : Type 0} → State D → ShelfView D → State D
with_shelf node shelf = record { id = node.id; blocks = node.blocks; shelf = shelf; stopped = node.stopped }
