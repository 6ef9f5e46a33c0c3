-- The bytes of blocks, and what a stop leaves of them on the two disks of a datanode.
use Rattle.std.specs.Prelude.{◌≡◌, ℕ, ◌+◌, ◌-◌, min, Bool, true, List, [], ◌∷◌, ◌++◌, Option, Some, IsSome, IfSome, slice_range, if◌then◌else◌}
use Rattle.oz_block.specs.Blocks.{StandsFor}
use Rattle.oz_chunk.specs.Slots.{start_of, IsWithin}
use Rattle.oz_chunk.specs.declared.table.TheConstants.{SLOT_SIZE}
use Rattle.oz_entries.specs.Node.{Node, is_same_block, has_slot}
use Rattle.oz_entries.specs.declared.row.BlockRow.{BlockRow}
use Rattle.oz_entries.specs.declared.row.Chunk.{Chunk}
use Rattle.oz_fields.specs.declared.block.Block.{Block}
use Rattle.oz_world.specs.Disk.{Seen, Images, seen}
use Rattle.sha2.specs.Sha256.{sha256}
use Rattle.oz_datanode.specs.Datanode.{State, node_in, meta_of, slots_of}

-- the bytes of a block, and whether the digests that are kept of its chunks are theirs
pub record Content : Type 0 where
  pub bytes : List ℕ
  pub intact : Bool

-- the bytes of a chunk on the disk of slots, the first one of so many bytes
abbrev pub part_of : ℕ → Chunk → List ℕ → List ℕ
part_of size chunk slots = slice_range slots (start_of chunk.slot) (start_of chunk.slot + min size SLOT_SIZE)

-- the bytes of chunks that have so many bytes together
unfoldable pub parts_of : ℕ → List Chunk → List ℕ → List ℕ
parts_of size [] slots = []
parts_of size (chunk ∷ chunks) slots = part_of size chunk slots ++ parts_of (size - SLOT_SIZE) chunks slots

-- the bytes of a block that has this row
abbrev pub bytes_of : BlockRow → List ℕ → List ℕ
bytes_of row slots = parts_of row.length row.chunks slots

-- the digests that are kept of chunks are those of their bytes
unfoldable pub HaveDigests : ℕ → List Chunk → List ℕ → Type 0
HaveDigests size [] slots = Unit {0}
HaveDigests size (chunk ∷ chunks) slots =
    (chunk.digest ≡ sha256 (part_of size chunk slots)) × HaveDigests (size - SLOT_SIZE) chunks slots

-- a block of this row has its content on the disk of slots
pub record Has (content : Content) (row : BlockRow) (slots : List ℕ) : Type 0 where
  pub within : (slot : ℕ) → has_slot row slot ≡ true → IsWithin slot slots
  pub bytes : bytes_of row slots ≡ content.bytes
  pub digests : content.intact ≡ true → HaveDigests row.length row.chunks slots

-- so has each block that is held
abbrev pub HaveAll : (Block → Content) → Node → List ℕ → Type 0
HaveAll contents node slots =
    (block : Block) (row : BlockRow) → node.rows block ≡ Some row → Has (contents block) row slots

-- Each block that a datanode holds has its content where its slots are read. If it stopped now, whatever that left on
-- its two disks, each block for which the one stands would have its content on the other. Both are said of disks that
-- tell their contents.
pub record PairHolds (contents : Block → Content) (node : Node) (journal slots : Seen) : Type 0 where
  pub read : IsSome journal.told → IfSome slots.told (HaveAll contents node)
  pub left : IsSome journal.told → IsSome slots.told → (bytes other : List ℕ) → journal.image journal.clock bytes
      → slots.image slots.clock other → (kept : Node) → StandsFor bytes kept → HaveAll contents kept other

-- what is seen of the journal of a datanode, and of the disk of its slots
abbrev pub journal_seen : {D : Type 0} → (D → Option (List ℕ)) → (D → ℕ) → (D → Images) → (D → ℕ) → State D → Seen
journal_seen told clock image faults state =
    seen (told (meta_of state)) (clock (meta_of state)) (image (meta_of state)) (faults (meta_of state))

abbrev pub slots_seen : {D : Type 0} → (D → Option (List ℕ)) → (D → ℕ) → (D → Images) → (D → ℕ) → State D → Seen
slots_seen told clock image faults state =
    seen (told (slots_of state)) (clock (slots_of state)) (image (slots_of state)) (faults (slots_of state))

-- so does a datanode
abbrev pub NodeHolds : {D : Type 0} → (D → Option (List ℕ)) → (D → ℕ) → (D → Images) → (D → ℕ) → (Block → Content)
    → State D → Type 0
NodeHolds told clock image faults contents state =
    PairHolds contents (node_in state) (journal_seen told clock image faults state)
    (slots_seen told clock image faults state)

-- a block's content is this, and each other one's is what it was
abbrev pub with_content : Block → Content → (Block → Content) → Block → Content
with_content block content contents other = if is_same_block block other then content else contents other
