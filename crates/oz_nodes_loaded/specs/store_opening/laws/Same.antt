-- What two loads of the same disks have in common.
use Rattle.std.proofs.Common.{
  ◌≡◌,
  ℕ,
  zero,
  suc,
  ◌+◌,
  false,
  not,
  List,
  [],
  ◌∷◌,
  ◌++◌,
  length,
  map,
  Option,
  None,
  Some,
  IfSome,
  All,
  option_and_then,
  refl,
  sym,
  ◌∙◌,
  ap,
  arith,
}
use Rattle.std.proofs.lemmas.Bool.{false≢true}
use Rattle.std.specs.Prelude.{IsSome}
use Rattle.std.specs.List.{flat_map, slice_get}
use Rattle.std.specs.Option.{option_map_or}
use Rattle.oz_block.specs.Blocks.{StandsFor as StandsForNode}
use Rattle.oz_core.specs.declared.opening.NodeOpening.{NodeOpening}
use Rattle.oz_core.specs.Nodes.{closes_at_opening, has_piece, is_open, length_in}
use Rattle.oz_core.specs.Stories.{first_in}
use Rattle.oz_datanode.specs.Datanode.{State as Datanode, node_in, slots_of}
use Rattle.oz_datanode.specs.declared.disks.NodeDisks.{NodeDisks}
use Rattle.oz_entries.specs.Node.{Node, is_held}
use Rattle.oz_entries.specs.declared.row.BlockRow.{BlockRow}
use Rattle.oz_fields.specs.declared.block.Block.{Block}
use Rattle.oz_scm.specs.grants.Made.{Made}
use Rattle.oz_loaded.specs.Unseated.{UnseatedView}
use Rattle.oz_namespace.specs.declared.namespace.Namespace.{Namespace}
use Rattle.oz_nodes_loaded.specs.Loads.{AreNodesFrom}
use Rattle.oz_world.specs.Disk.{Seen}
use Rattle.oz_nodes_loaded.specs.store_opening.Openings.{intact_bytes, opened_node, opening_bytes, opening_of}
use Rattle.oz_nodes_loaded.specs.store_opening.Same.{SayTheSame}
use Rattle.oz_nodes_loaded.specs.store_opening.laws.Held.{holds_as}
use Rattle.oz_nodes_loaded.specs.store_opening.laws.Named.{closed_as, first_length_in, no_length_in}

-- ---- what an opening says, by the nodes alone

abbrev opened : {D : Type 0} → List (Datanode D) → List NodeOpening
opened {D} nodes = map (λ (node : Datanode D). opened_node node.blocks.held) nodes

held_by_nodes : {D : Type 0} (nodes : List (Datanode D)) (dn : ℕ) (block : Block)
    → option_map_or (has_piece block) (slice_get (opened nodes) dn) false
    ≡ option_map_or (λ (node : Node). is_held node block) (slice_get (map node_in nodes) dn) false
held_by_nodes [] dn block = refl
held_by_nodes (node ∷ nodes) zero block = holds_as node.blocks.held block
held_by_nodes (node ∷ nodes) (suc dn) block = held_by_nodes nodes dn block

closed_by_nodes : {D : Type 0} (nodes : List (Datanode D)) (dn container : ℕ)
    → option_map_or (closes_at_opening container) (slice_get (opened nodes) dn) false
    ≡ option_map_or (λ (node : Node). not (is_open (node.states container))) (slice_get (map node_in nodes) dn) false
closed_by_nodes [] dn container = refl
closed_by_nodes (node ∷ nodes) zero container = closed_as node.blocks.held container
closed_by_nodes (node ∷ nodes) (suc dn) container = closed_by_nodes nodes dn container

-- the length of the first row that a block has
abbrev pub or_next : Option BlockRow → Option ℕ → Option ℕ
or_next None next = next
or_next (Some row) next = Some row.length

abbrev pub first_row : Block → List Node → Option ℕ
first_row block [] = None
first_row block (node ∷ nodes) = or_next (node.rows block) (first_row block nodes)

first_more : (xs rest : List ℕ) (length : ℕ) → first_in xs ≡ Some length → first_in (xs ++ rest) ≡ Some length
first_more [] rest length is = absurd cc
first_more (x ∷ xs) rest length is = is

pub lengths_by_nodes : {D : Type 0} (nodes : List (Datanode D)) (block : Block)
    → first_in (flat_map (length_in block) (opened nodes) ++ []) ≡ first_row block (map node_in nodes)
lengths_by_nodes [] block = refl
lengths_by_nodes (node ∷ nodes) block = by (length_in block (opened_node node.blocks.held)) refl ((node_in node).rows block) refl (lengths_by_nodes nodes block)
  where
    rest : List ℕ
    rest = flat_map (length_in block) (opened nodes)

    by : (xs : List ℕ) → length_in block (opened_node node.blocks.held) ≡ xs → (o : Option BlockRow) → (node_in node).rows block ≡ o
        → first_in (flat_map (length_in block) (opened nodes) ++ []) ≡ first_row block (map node_in nodes)
        → first_in ((xs ++ flat_map (length_in block) (opened nodes)) ++ []) ≡ or_next o (first_row block (map node_in nodes))
    by [] is None has others = others
    by (x ∷ xs) is None has others = let none : [] ≡ x ∷ xs = sym (no_length_in node.blocks.held block has) ∙ is in absurd cc
    by [] is (Some row) has others = let some : None ≡ Some row.length = ap (λ (ys : List ℕ). first_in ys) (sym is)
        ∙ first_length_in node.blocks.held block row has in absurd cc
    by (x ∷ xs) is (Some row) has others = ap (λ (ys : List ℕ). first_in ys) (sym is) ∙ first_length_in node.blocks.held block row has

-- ---- two loads

module _ {D : Type 0} (see : D → Seen)
    (one_node : (bytes : List ℕ) (node other : Node) → StandsForNode bytes node → StandsForNode bytes other → node ≡ other) where
  one_load : (told : Option (List ℕ)) (node other : Node) → IsSome told → IfSome told (λ bytes. StandsForNode bytes node)
      → IfSome told (λ bytes. StandsForNode bytes other) → node ≡ other
  one_load None node other some is also = absurd (false≢true some)
  one_load (Some bytes) node other some is also = one_node bytes node other is also

  abbrev AllTell : List (NodeDisks D) → Type 0
  AllTell all = All (λ (disks : NodeDisks D). IsSome (see disks.meta).told) all

  same_nodes : (dn : ℕ) (all : List (NodeDisks D)) (nodes others : List (Datanode D)) → AllTell all → AreNodesFrom see dn all nodes
      → AreNodesFrom see dn all others → map node_in nodes ≡ map node_in others
  same_nodes dn [] [] [] tell are also = refl
  same_nodes dn [] (node ∷ nodes) others tell are also = absurd are
  same_nodes dn [] [] (other ∷ others) tell are also = absurd also
  same_nodes dn (disks ∷ all) [] others tell are also = absurd are
  same_nodes dn (disks ∷ all) (node ∷ nodes) [] tell are also = absurd also
  same_nodes dn (disks ∷ all) (node ∷ nodes) (other ∷ others) tell are also =
      let first = one_load (see disks.meta).told (node_in node) (node_in other) (tell zero disks (omega arith)) are.0.stands also.0.stands in
      let rest = same_nodes (dn + 1) all nodes others (λ k d within. tell (suc k) d (omega (arith, within))) are.1 also.1 in
      ap (λ (n : Node). n ∷ map node_in nodes) first ∙ ap (λ (ns : List Node). node_in other ∷ ns) rest

  -- what the slots of a datanode have of a block
  abbrev told_of : Option (List ℕ) → Option BlockRow → Option (List ℕ)
  told_of told row = option_and_then (λ (r : BlockRow). option_and_then (intact_bytes r) told) row

  same_bytes : (dn : ℕ) (all : List (NodeDisks D)) (nodes others : List (Datanode D)) → AllTell all → AreNodesFrom see dn all nodes
      → AreNodesFrom see dn all others
      → (at : ℕ) (block : Block) → opening_bytes see others at block ≡ opening_bytes see nodes at block
  same_bytes dn [] [] [] tell are also at block = refl
  same_bytes dn [] (node ∷ nodes) others tell are also at block = absurd are
  same_bytes dn [] [] (other ∷ others) tell are also at block = absurd also
  same_bytes dn (disks ∷ all) [] others tell are also at block = absurd are
  same_bytes dn (disks ∷ all) (node ∷ nodes) [] tell are also at block = absurd also
  same_bytes dn (disks ∷ all) (node ∷ nodes) (other ∷ others) tell are also zero block =
      let first = one_load (see disks.meta).told (node_in node) (node_in other) (tell zero disks (omega arith)) are.0.stands also.0.stands in
      let slots : (see (slots_of other)).told ≡ (see (slots_of node)).told = also.0.slots.contents ∙ sym are.0.slots.contents in
      ap (λ (n : Node). told_of (see (slots_of other)).told (n.rows block)) (sym first)
      ∙ ap (λ (told : Option (List ℕ)). told_of told ((node_in node).rows block)) slots
  same_bytes dn (disks ∷ all) (node ∷ nodes) (other ∷ others) tell are also (suc at) block =
      same_bytes (dn + 1) all nodes others (λ k d within. tell (suc k) d (omega (arith, within))) are.1 also.1 at block

  pub loads_say_the_same : (all : List (NodeDisks D)) (nodes others : List (Datanode D)) (unseated : UnseatedView) (namespace : Namespace) (made : Made)
      → AllTell all → AreNodesFrom see 0 all nodes → AreNodesFrom see 0 all others
      → SayTheSame (opening_of unseated namespace made nodes) (opening_of unseated namespace made others) (opening_bytes see nodes) (opening_bytes see others)
  loads_say_the_same all nodes others unseated namespace made tell are also = record {
    held = λ dn block. held_by_nodes others dn block
        ∙ (ap (λ (ns : List Node). option_map_or (λ (node : Node). is_held node block) (slice_get ns dn) false) (sym same)
        ∙ sym (held_by_nodes nodes dn block));
    lengths = λ block. lengths_by_nodes others block ∙ (ap (first_row block) (sym same) ∙ sym (lengths_by_nodes nodes block));
    closed = λ dn container. closed_by_nodes others dn container
        ∙ (ap (λ (ns : List Node). option_map_or (λ (node : Node). not (is_open (node.states container))) (slice_get ns dn) false) (sym same)
        ∙ sym (closed_by_nodes nodes dn container));
    contents = same_bytes 0 all nodes others tell are also;
  }
    where
      same : map node_in nodes ≡ map node_in others
      same = same_nodes 0 all nodes others tell are also
