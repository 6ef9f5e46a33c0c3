-- That the blocks of a store agree, which loading doesn't test.
use Rattle.std.specs.Prelude.{◌≡◌, ℕ, true, false, List, [], length, Some, IsSome, Contains}
use Rattle.std.specs.FinMap.{get}
use Rattle.oz_core.specs.declared.opening.Opening.{Opening}
use Rattle.oz_core.specs.Coherent.{LogIsCoherent}
use Rattle.oz_core.specs.Contents.{OpeningBytes}
use Rattle.oz_core.specs.Nodes.{was_held}
use Rattle.oz_core.specs.Pieces.{IsPieceIn}
use Rattle.oz_core.specs.Scm.{members}
use Rattle.oz_datanode.specs.Datanode.{State as Datanode, node_in}
use Rattle.oz_entries.specs.Node.{is_held}
use Rattle.oz_fields.specs.declared.block.Block.{Block}
use Rattle.oz_fields.specs.declared.block.Piece.{Piece}
use Rattle.oz_rows.specs.RowMaps.{Rows}
use Rattle.oz_store.specs.Store.{IsInARow}

-- Each block that the manager's rows name lies in a container that was made. A datanode that holds a block is a member of its
-- container, and has bytes with the digests that were kept. All who hold a block have the same bytes, as many as a key or a
-- snapshot says. Nothing reaches a block that is still being deleted, and its id was granted.
pub record BlocksAgree (all : Rows) (opening : Opening) (bytes : OpeningBytes) : Type 0 where
  pub made : (block : Block) → IsInARow all block → IsSome (get opening.containers block.container)
  pub placed : (block : Block) (dn : ℕ) → was_held opening dn block ≡ true
      → Contains (members opening [] block.container) dn
  pub digests_match : (block : Block) (dn : ℕ) → was_held opening dn block ≡ true → IsSome (bytes dn block)
  pub alike : (block : Block) (dn other : ℕ) → was_held opening dn block ≡ true
      → was_held opening other block ≡ true → bytes dn block ≡ bytes other block
  pub whole : (piece : Piece) (dn : ℕ) (content : List ℕ) → IsPieceIn opening.namespace piece
      → was_held opening dn piece.block ≡ true → bytes dn piece.block ≡ Some content → length content ≡ piece.length
  pub logged : LogIsCoherent opening

-- a datanode holds no block
abbrev pub HoldsNothing : {D : Type 0} → Datanode D → Type 0
HoldsNothing node = (block : Block) → is_held (node_in node) block ≡ false
