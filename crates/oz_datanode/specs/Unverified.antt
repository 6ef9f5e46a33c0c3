-- Chunks that were read without a look at their digests.
use Rattle.std.specs.Prelude.{◌≡◌, ℕ, ◌-◌, List, [], ◌∷◌, ◌++◌, Option, Some, IfSome, All}
use Rattle.oz_chunk.specs.declared.table.TheConstants.{SLOT_SIZE}
use Rattle.oz_entries.specs.declared.row.BlockRow.{BlockRow}
use Rattle.oz_entries.specs.declared.row.Chunk.{Chunk}
use Rattle.oz_fields.specs.declared.block.Block.{Block}
use Rattle.sha2.specs.Sha256.{sha256}
use Rattle.oz_datanode.specs.Datanode.{State, node_in, slots_of, Runs}
use Rattle.oz_datanode.specs.Pairs.{part_of}
use Rattle.oz_datanode.specs.declared.unverified.Unverified.{Unverified}

-- a chunk has the digest that is kept of it
abbrev pub HasItsDigest : Unverified → Type 0
HasItsDigest chunk = chunk.digest ≡ sha256 chunk.bytes.items

-- so has each of these
abbrev pub AreAsKept : List Unverified → Type 0
AreAsKept chunks = All HasItsDigest chunks

-- their bytes, one behind the other
unfoldable pub joined : List Unverified → List ℕ
joined [] = []
joined (chunk ∷ chunks) = chunk.bytes.items ++ joined chunks

-- These have the bytes that stand in the slots of the chunks, which have so many together, and the digests that are kept.
unfoldable pub AreUnverified : ℕ → List Chunk → List ℕ → List Unverified → Type 0
AreUnverified size [] slots read = read ≡ []
AreUnverified size (chunk ∷ chunks) slots [] = ⊥
AreUnverified size (chunk ∷ chunks) slots (first ∷ rest) =
    (first.bytes.items ≡ part_of size chunk slots) × (first.digest ≡ chunk.digest)
    × AreUnverified (size - SLOT_SIZE) chunks slots rest

-- These are the chunks of the block as its disk answers them, with the digests that its row has.
pub record IsUnverified {D : Type 0} (told : D → Option (List ℕ)) (faults : D → ℕ) (block : Block)
    (chunks : List Unverified) (old new : State D) : Type 0 where
  pub ran : Runs faults old
  pub runs : Runs faults new
  pub row : BlockRow
  pub held : (node_in old).rows block ≡ Some row
  pub are : IfSome (told (slots_of old)) (λ slots. AreUnverified row.length row.chunks slots chunks)
