-- The chunks of the bytes of a block, and their digests.
use Rattle.std.specs.Prelude.{◌≡◌, ℕ, ◌+◌, ◌-◌, ◌*◌, ◌<◌, ◌≤◌, min, List, [], length, get_or, slice_range}
use Rattle.oz_chunk.specs.declared.table.TheConstants.{SLOT_SIZE}
use Rattle.oz_fields.specs.declared.block.TheConstants.{LONGEST_PIECE}
use Rattle.sha2.specs.Sha256.{sha256}

-- the chunk in this place of the bytes of a block
abbrev pub chunk_at : ℕ → List ℕ → List ℕ
chunk_at place bytes =
    slice_range bytes (place * SLOT_SIZE) (place * SLOT_SIZE + min (length bytes - place * SLOT_SIZE) SLOT_SIZE)

-- These are the digests of its chunks, in the order of their places.
pub record AreHashed (digests : List (List ℕ)) (bytes : List ℕ) : Type 0 where
  pub size : length digests ≡ 4
  pub most : length bytes ≤ LONGEST_PIECE
  pub each : (place : ℕ) → place * SLOT_SIZE < length bytes → get_or digests place [] ≡ sha256 (chunk_at place bytes)
