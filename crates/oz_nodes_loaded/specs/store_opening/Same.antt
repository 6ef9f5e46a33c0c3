-- Two openings that say the same of what datanodes have.
use Rattle.std.specs.Prelude.{◌≡◌, ℕ, []}
use Rattle.oz_core.specs.declared.opening.Opening.{Opening}
use Rattle.oz_core.specs.Contents.{OpeningBytes}
use Rattle.oz_core.specs.Nodes.{length_of, was_closed, was_held}
use Rattle.oz_fields.specs.declared.block.Block.{Block}

-- the same blocks with their lengths, the same replicas that are closed, and the same bytes
pub record SayTheSame (opening other : Opening) (bytes other_bytes : OpeningBytes) : Type 0 where
  pub held : (dn : ℕ) (block : Block) → was_held other dn block ≡ was_held opening dn block
  pub lengths : (block : Block) → length_of other [] block ≡ length_of opening [] block
  pub closed : (dn container : ℕ) → was_closed other dn container ≡ was_closed opening dn container
  pub contents : (dn : ℕ) (block : Block) → other_bytes dn block ≡ bytes dn block
