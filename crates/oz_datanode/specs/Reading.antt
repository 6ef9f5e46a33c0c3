-- What reading a block does to a datanode, and what it answers.
use Rattle.std.specs.Prelude.{◌≡◌, ◌⊎◌, ℕ, ◌-◌, ◌≤◌, Bool, true, false, List, [], ◌∷◌, Option, Some, IfSome, Result, Ok, Err}
use Rattle.oz_chunk.specs.declared.table.TheConstants.{SLOT_SIZE}
use Rattle.oz_entries.specs.declared.row.BlockRow.{BlockRow}
use Rattle.oz_entries.specs.declared.row.Chunk.{Chunk}
use Rattle.oz_entries.specs.Node.{is_held}
use Rattle.oz_fields.specs.declared.block.Block.{Block}
use Rattle.oz_block.specs.shelf.Shelf.{ShelfView}
use Rattle.oz_world.specs.Disk.{Seen, Stands}
use Rattle.oz_world.specs.Faults.{Rose}
use Rattle.sha2.specs.Sha256.{sha256}
use Rattle.oz_datanode.specs.declared.refusal.NodeRefusal.{NodeRefusal}
use Rattle.oz_datanode.specs.declared.refusal.NodeRefusal.TheVariants as refusals
use Rattle.oz_datanode.specs.declared.reading.Unread.{Unread}
use Rattle.oz_datanode.specs.declared.reading.Unread.TheVariants as unread
use Rattle.oz_datanode.specs.Datanode.{State, node_in, slots_of, is_halted, count_of, stop_of, Runs}
use Rattle.oz_datanode.specs.Pairs.{part_of, bytes_of, HaveDigests}

-- the first chunk whose bytes haven't the digest that is kept of them, by that digest and the one that they have
unfoldable pub IsFirstBad : ℕ → List Chunk → List ℕ → List ℕ → List ℕ → Type 0
IsFirstBad size [] slots kept found = ⊥
IsFirstBad size (chunk ∷ chunks) slots kept found =
    ((kept ≡ chunk.digest) × (found ≡ sha256 (part_of size chunk slots)) × (found ≡ kept → ⊥))
    ⊎ ((chunk.digest ≡ sha256 (part_of size chunk slots)) × IsFirstBad (size - SLOT_SIZE) chunks slots kept found)

-- The slots are read. What their disk tells, what a stop leaves of it and what is taken and written is as it was.
pub record OnlyReads {D : Type 0} (old new : ShelfView D) (before after : Seen) : Type 0 where
  pub told : after.told ≡ before.told
  pub time : Stands before.clock after.clock before.image after.image
  pub faults : before.faults ≤ after.faults
  pub taken : new.slots.taken ≡ old.slots.taken
  pub written : new.written ≡ old.written

-- These are the bytes of the block, and each chunk has the digest that is kept of it.
pub record IsRead {D : Type 0} (told : D → Option (List ℕ)) (faults : D → ℕ) (block : Block) (bytes : List ℕ)
    (old new : State D) : Type 0 where
  pub ran : Runs faults old
  pub runs : Runs faults new
  pub row : BlockRow
  pub held : (node_in old).rows block ≡ Some row
  pub is : IfSome (told (slots_of old)) (λ slots. bytes ≡ bytes_of row slots)
  pub digests : IfSome (told (slots_of old)) (HaveDigests row.length row.chunks)

-- A chunk hasn't the digest that is kept of it.
pub record IsBad {D : Type 0} (told : D → Option (List ℕ)) (faults : D → ℕ) (block : Block) (kept found : List ℕ)
    (old new : State D) : Type 0 where
  pub ran : Runs faults old
  pub runs : Runs faults new
  pub row : BlockRow
  pub held : (node_in old).rows block ≡ Some row
  pub first : IfSome (told (slots_of old)) (λ slots. IsFirstBad row.length row.chunks slots kept found)

-- The disk of slots failed in the call.
pub record ReadHalts {D : Type 0} (faults : D → ℕ) (block : Block) (count : ℕ) (old new : State D) : Type 0 where
  pub ran : Runs faults old
  pub held : is_held (node_in old) block ≡ true
  pub halted : is_halted new ≡ true
  pub counted : count ≡ count_of faults new
  pub cause : Rose (faults (slots_of old)) (faults (slots_of new))

-- why a block isn't read
abbrev pub IsUnread : {D : Type 0} → (D → Option (List ℕ)) → (D → ℕ) → Block → State D → State D → NodeRefusal → Type 0
IsUnread told faults block old new (refusals.Stopped count) =
    ((stop_of faults old ≡ Some count) × (new ≡ old)) ⊎ ReadHalts faults block count old new
IsUnread told faults block old new refusals.NoBlock =
    Runs faults old × (is_held (node_in old) block ≡ false) × (new ≡ old)
IsUnread told faults block old new (refusals.Bad kept found) = IsBad told faults block kept found old new
IsUnread told faults block old new refusals.OutOfMemory =
    Runs faults old × (is_held (node_in old) block ≡ true) × Runs faults new
IsUnread told faults block old new (refusals.Full used asked capacity) = ⊥
IsUnread told faults block old new (refusals.NotOpen state) = ⊥

-- For private calls: a read of chunks answers that the disk failed.
abbrev pub fails_to_read : {T : Type 0} → Result T Unread → Bool
fails_to_read (Ok bytes) = false
fails_to_read (Err unread.Failed) = true
fails_to_read (Err (unread.Bad kept found)) = false
fails_to_read (Err unread.OutOfMemory) = false
