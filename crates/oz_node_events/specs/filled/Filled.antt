-- The blocks that a datanode holds, and the slots that they take.
use Rattle.std.specs.Prelude.{◌≡◌, ◌≢◌, ◌↔◌, ℕ, false, List, Some, IsTrue, Contains, AllPairs}
use Rattle.std.specs.Option.{option_map_or}
use Rattle.oz_entries.specs.Held.{IsSound}
use Rattle.oz_entries.specs.Node.{Node, RowFits, chunk_count, is_held}
use Rattle.oz_entries.specs.declared.row.BlockRow.{BlockRow}
use Rattle.oz_fields.specs.declared.block.Block.{Block}

-- these are the blocks that are held, each once
pub record AreHeldIn (node : Node) (blocks : List Block) : Type 0 where
  pub apart : AllPairs ◌≢◌ blocks
  pub each : (block : Block) → Contains blocks block ↔ IsTrue (is_held node block)

-- how many slots a block takes
abbrev pub slots_in : Node → Block → ℕ
slots_in node block = option_map_or (λ (row : BlockRow). chunk_count row.length) (node.rows block) 0

-- Finitely many blocks are held. Each has as many slots as its length takes, of those that there are, and no two blocks
-- have one.
pub record BlocksHaveSlots (node : Node) : Type 0 where
  pub blocks : List Block
  pub held : AreHeldIn node blocks
  pub fit : (block : Block) (row : BlockRow) → node.rows block ≡ Some row → RowFits (λ slot. false) row
  pub sound : IsSound node
