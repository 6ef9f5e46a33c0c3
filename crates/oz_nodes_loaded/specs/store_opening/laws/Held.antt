-- The blocks and replicas of an opening are those of the datanodes.
use Rattle.std.proofs.Common.{
  ◌≡◌,
  ℕ,
  zero,
  suc,
  Bool,
  true,
  false,
  ◌||◌,
  cond,
  List,
  [],
  ◌∷◌,
  map,
  Option,
  None,
  Some,
  is_some,
  option_map,
  refl,
  sym,
  ◌∙◌,
  ap,
  subst,
}
use Rattle.std.proofs.lemmas.Bool.{false≢true}
use Rattle.std.specs.List.{cons_option, list_any, slice_get}
use Rattle.std.specs.Option.{option_map_or}
use Rattle.std.specs.Ordering.{is_eq}
use Rattle.oz_core.specs.Nodes.{has_piece, is_block}
use Rattle.oz_datanode.specs.Datanode.{State as Datanode, node_in}
use Rattle.oz_entries.specs.Held.{HeldView, block_order, node_of, place_of, row_of}
use Rattle.oz_entries.specs.Node.{Node, is_held}
use Rattle.oz_entries.specs.laws.Blocks.{eq_block, itself, same_block}
use Rattle.oz_entries.specs.declared.row.BlockRow.{BlockRow}
use Rattle.oz_fields.specs.declared.block.Block.{Block}
use Rattle.oz_fields.specs.declared.block.Piece.{Piece}
use Rattle.oz_nodes_loaded.specs.store_opening.Openings.{opened_node, pieces_of}

pub or_left : (a b : Bool) → a ≡ true → (a || b) ≡ true
or_left true b e = refl
or_left false b e = absurd (false≢true e)

pub or_right : (a b : Bool) → b ≡ true → (a || b) ≡ true
or_right true b e = refl
or_right false b e = e

-- two tests give the same where each follows from the other
pub same_test : (a b : Bool) → (a ≡ true → b ≡ true) → (b ≡ true → a ≡ true) → a ≡ b
same_test true b to from = sym (to refl)
same_test false true to from = from refl
same_test false false to from = refl

-- two tests of a block are one
pub turned : (a b : Block) → is_block a b ≡ true → b ≡ a
turned a b e = same_block b a e

own : (a : Block) → is_block a a ≡ true
own a = itself a

-- ---- of some blocks those that are held

abbrev pub with_length : Block → BlockRow → Piece
with_length block row = record { block = block; length = row.length }

module _ (node : Node) (block : Block) where
  abbrev listed : Option BlockRow → Block → List Piece → Bool
  listed row other pieces =
      list_any (λ (piece : Piece). is_block block piece.block) (cons_option (option_map (with_length other) row) pieces)

  -- one that is listed is held
  listed_first : (other : Block) (row : BlockRow) (pieces : List Piece) → node.rows other ≡ Some row → (t : Bool) → is_block block other ≡ t
      → (list_any (λ (piece : Piece). is_block block piece.block) pieces ≡ true → is_held node block ≡ true)
      → (t || list_any (λ (piece : Piece). is_block block piece.block) pieces) ≡ true → is_held node block ≡ true
  listed_first other row pieces its true same others e =
      subst (λ (b : Block). is_held node b ≡ true) (turned block other same) (ap (λ (o : Option BlockRow). is_some o) its)
  listed_first other row pieces its false same others e = others e

  listed_next : (other : Block) (pieces : List Piece) (o : Option BlockRow) → node.rows other ≡ o
      → (list_any (λ (piece : Piece). is_block block piece.block) pieces ≡ true → is_held node block ≡ true)
      → listed o other pieces ≡ true → is_held node block ≡ true
  listed_next other pieces None its others e = others e
  listed_next other pieces (Some row) its others e = listed_first other row pieces its (is_block block other) refl others e

  listed_held : (blocks : List Block) → list_any (λ (piece : Piece). is_block block piece.block) (pieces_of node blocks) ≡ true → is_held node block ≡ true
  listed_held [] is = absurd (false≢true is)
  listed_held (other ∷ blocks) is = listed_next other (pieces_of node blocks) (node.rows other) refl (listed_held blocks) is

  -- one that is held is listed where it is among them
  held_next : (other : Block) (pieces : List Piece) (blocks : List Block) (o : Option BlockRow) → node.rows other ≡ o → (t : Bool) → is_block block other ≡ t
      → is_held node block ≡ true
      → (list_any (λ (b : Block). is_block block b) blocks ≡ true → list_any (λ (piece : Piece). is_block block piece.block) pieces ≡ true)
      → (t || list_any (λ (b : Block). is_block block b) blocks) ≡ true → listed o other pieces ≡ true
  held_next other pieces blocks None its true same held others e =
      absurd (false≢true (ap (λ (o : Option BlockRow). is_some o) (sym its) ∙ (ap (λ (b : Block). is_held node b) (turned block other same) ∙ held)))
  held_next other pieces blocks None its false same held others e = others e
  held_next other pieces blocks (Some row) its true same held others e =
      ap (λ (t : Bool). t || list_any (λ (piece : Piece). is_block block piece.block) pieces) same
  held_next other pieces blocks (Some row) its false same held others e =
      or_right (is_block block other) (list_any (λ (piece : Piece). is_block block piece.block) pieces) (others e)

  held_listed : (blocks : List Block) → is_held node block ≡ true → list_any (λ (other : Block). is_block block other) blocks ≡ true
      → list_any (λ (piece : Piece). is_block block piece.block) (pieces_of node blocks) ≡ true
  held_listed [] held among = absurd (false≢true among)
  held_listed (other ∷ blocks) held among =
      held_next other (pieces_of node blocks) blocks (node.rows other) refl (is_block block other) refl held (held_listed blocks held) among

-- a row that is found stands under the block
abbrev pub blocks_in : List (Block × Option BlockRow) → List Block
blocks_in rows = map (λ (entry : Block × Option BlockRow). entry.0) rows

row_next : (block first : Block) (row : Option BlockRow) (rows : List (Block × Option BlockRow)) (t : Bool) → is_eq (block_order block first) ≡ t
    → (is_some (row_of rows block) ≡ true → list_any (λ (other : Block). is_block block other) (blocks_in rows) ≡ true)
    → is_some (option_map_or (λ (row : Option BlockRow). row) (cond t (Some row) (place_of rows block)) None) ≡ true
    → (is_block block first || list_any (λ (other : Block). is_block block other) (blocks_in rows)) ≡ true
row_next block first row rows true same others e =
    let one : block ≡ first = same_block block first (sym (eq_block block first) ∙ same) in
    or_left (is_block block first) (list_any (λ (other : Block). is_block block other) (blocks_in rows))
    (subst (λ (b : Block). is_block block b ≡ true) one (own block))
row_next block first row rows false same others e =
    or_right (is_block block first) (list_any (λ (other : Block). is_block block other) (blocks_in rows)) (others e)

pub row_listed : (rows : List (Block × Option BlockRow)) (block : Block) → is_some (row_of rows block) ≡ true
    → list_any (λ (other : Block). is_block block other) (blocks_in rows) ≡ true
row_listed [] block is = absurd (false≢true is)
row_listed (entry ∷ rows) block is = row_next block entry.0 entry.1 rows (is_eq (block_order block entry.0)) refl (row_listed rows block) is

pub holds_as : (held : HeldView) (block : Block) → has_piece block (opened_node held) ≡ is_held (node_of held) block
holds_as held block =
    let blocks : List Block = map (λ (entry : Block × Option BlockRow). entry.0) held.rows in
    same_test (has_piece block (opened_node held)) (is_held (node_of held) block) (listed_held (node_of held) block blocks)
    (λ is. held_listed (node_of held) block blocks is (row_listed held.rows block is))

-- ---- of all datanodes

module _ {D : Type 0} (block : Block) where
  pub was_held_as : (nodes : List (Datanode D)) (dn : ℕ)
      → option_map_or (has_piece block) (slice_get (map (λ (node : Datanode D). opened_node node.blocks.held) nodes) dn) false
      ≡ option_map_or (λ (node : Datanode D). is_held (node_in node) block) (slice_get nodes dn) false
  was_held_as [] dn = refl
  was_held_as (node ∷ nodes) zero = holds_as node.blocks.held block
  was_held_as (node ∷ nodes) (suc dn) = was_held_as nodes dn
