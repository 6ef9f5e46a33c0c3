-- What an opening says of how long blocks are.
use Rattle.std.specs.Prelude.{◌≡◌, ℕ, true, List, [], length, Some}
use Rattle.oz_fields.specs.declared.block.Block.{Block}
use Rattle.oz_core.specs.declared.opening.Opening.{Opening}
use Rattle.oz_core.specs.Contents.{OpeningBytes}
use Rattle.oz_core.specs.Nodes.{length_of, was_held}

-- a block is as long as the bytes are that disks had of it
abbrev pub LengthsAreOfBytes : Opening → OpeningBytes → Type 0
LengthsAreOfBytes opening bytes =
    (block : Block) (dn count : ℕ) (content : List ℕ) → was_held opening dn block ≡ true → bytes dn block ≡ Some content
    → length_of opening [] block ≡ Some count → count ≡ length content
