-- The chunks that were written of blocks and not put, which of them are those of a block, and what they make.
use Rattle.std.specs.Prelude.{ℕ, ◌+◌, ◌-◌, ◌≤◌, ◌==◌, nat_lt, ◌&&◌, not, min, Bool, List, [], ◌∷◌, map, filter, if◌then◌else◌}
use Rattle.oz_chunk.specs.declared.table.TheConstants.{SLOT_SIZE}
use Rattle.oz_entries.specs.declared.row.BlockRow.{BlockRow}
use Rattle.oz_entries.specs.declared.row.Chunk.{Chunk}
use Rattle.oz_entries.specs.Node.{is_same_block}
use Rattle.oz_fields.specs.declared.block.Block.{Block}
use Rattle.oz_block.specs.declared.shelf.written.Written.{Written}

-- it is a chunk of the block, and the one in this place of it
abbrev pub is_of : Block → Written → Bool
is_of block one = is_same_block one.block block

abbrev pub is_at : Block → ℕ → Written → Bool
is_at block place one = is_of block one && (one.place == place)

-- those of a block, those of other blocks, and those in other places
abbrev pub written_of : Block → List Written → List Written
written_of block written = filter (is_of block) written

abbrev pub written_besides : Block → List Written → List Written
written_besides block written = filter (λ one. not (is_of block one)) written

abbrev pub written_elsewhere : Block → ℕ → List Written → List Written
written_elsewhere block place written = filter (λ one. not (is_at block place one)) written

-- where they stand
abbrev pub chunks_in : List Written → List Chunk
chunks_in written = map (λ (one : Written). one.chunk) written

-- the first is a chunk of the block of the other, in a greater place
abbrev pub is_behind : Written → Written → Bool
is_behind one other = is_of other.block one && nat_lt other.place one.place

-- one more, in front of the first that is behind it, and otherwise at the end
abbrev pub inserted : List Written → Written → List Written
inserted [] one = one ∷ []
inserted (first ∷ written) one =
    if is_behind first one then one ∷ first ∷ written else first ∷ inserted written one

-- one more, instead of the one that had its place in its block
abbrev pub with_written : List Written → Written → List Written
with_written written one = inserted (written_elsewhere one.block one.place written) one

-- their places rise, from this one on; and so do those of each block
abbrev pub RiseFrom : ℕ → List Written → Type 0
RiseFrom least [] = Unit {0}
RiseFrom least (one ∷ written) = (least ≤ one.place) × RiseFrom (one.place + 1) written

abbrev pub AreRising : List Written → Type 0
AreRising written = (block : Block) → RiseFrom 0 (written_of block written)

-- these stand one behind the other from this place on, and have so many bytes, each but the last as many as a slot
unfoldable pub makes_from : ℕ → ℕ → List Written → Bool
makes_from place size [] = size == 0
makes_from place size (one ∷ written) =
    nat_lt 0 size && (one.place == place) && (one.size == min size SLOT_SIZE)
    && makes_from (place + 1) (size - SLOT_SIZE) written

-- those of the block make so many bytes
abbrev pub makes : List Written → Block → ℕ → Bool
makes written block size = makes_from 0 size (written_of block written)

-- the row that they give a block of so many bytes
abbrev pub row_of : List Written → Block → ℕ → BlockRow
row_of written block size = record { length = size; chunks = chunks_in (written_of block written) }
