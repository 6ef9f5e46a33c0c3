-- What a datanode holds beside what a story says, and beside what its journal tells.
use Rattle.std.specs.Prelude.{◌≡◌, ℕ, List, Option, Some, IsSomeAnd}
use Rattle.oz_block.specs.Blocks.{StandsFor}
use Rattle.oz_core.specs.declared.event.Event.{Event}
use Rattle.oz_core.specs.declared.opening.Opening.{Opening}
use Rattle.oz_core.specs.Nodes.{holds, length_of}
use Rattle.oz_datanode.specs.Datanode.{State, meta_of, node_in}
use Rattle.oz_entries.specs.Node.{Node, is_held}
use Rattle.oz_entries.specs.declared.row.BlockRow.{BlockRow}
use Rattle.oz_fields.specs.declared.block.Block.{Block}

-- a datanode has the rows of the blocks that the story says it holds, and no others, each with the block's length
pub record RowsAreHeld (opening : Opening) (story : List Event) (dn : ℕ) (node : Node) : Type 0 where
  pub held : (block : Block) → holds opening story dn block ≡ is_held node block
  pub lengths : (block : Block) (row : BlockRow) → node.rows block ≡ Some row
      → length_of opening story block ≡ Some row.length

-- the journal of a datanode tells its contents, and they stand for what it holds
abbrev pub JournalStands : {D : Type 0} → (D → Option (List ℕ)) → State D → Type 0
JournalStands told node = IsSomeAnd (told (meta_of node)) (λ bytes. StandsFor bytes (node_in node))
