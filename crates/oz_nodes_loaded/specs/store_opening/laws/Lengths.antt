-- The length of a row is that of the block's bytes.
use Rattle.std.proofs.Common.{
  ◌≡◌,
  ℕ,
  zero,
  suc,
  ◌+◌,
  ◌-◌,
  ◌*◌,
  ◌≤◌,
  min,
  eqb,
  Bool,
  true,
  false,
  cond,
  List,
  [],
  ◌∷◌,
  length,
  drop,
  map,
  Option,
  None,
  Some,
  is_some,
  IfSome,
  All,
  option_and_then,
  refl,
  sym,
  ◌∙◌,
  ap,
  subst,
  arith,
  length-append,
  length-drop,
  length-take,
}
use Rattle.std.proofs.lemmas.Bool.{eq-eqb, false≢true}
use Rattle.std.proofs.lemmas.Option.{same_Some}
use Rattle.std.specs.Prelude.{IsSome}
use Rattle.std.specs.List.{list_any, slice_get}
use Rattle.std.specs.Option.{option_map_or}
use Rattle.oz_block.specs.Blocks.{StandsFor as StandsForNode}
use Rattle.oz_chunk.specs.Slots.{IsWithin, start_of}
use Rattle.oz_chunk.specs.declared.table.TheConstants.{SLOT_SIZE}
use Rattle.oz_core.specs.declared.opening.Opening.{Opening}
use Rattle.oz_core.specs.Nodes.{length_of, was_held}
use Rattle.oz_datanode.specs.Datanode.{State as Datanode, node_in, slots_of}
use Rattle.oz_datanode.specs.Pairs.{bytes_of, part_of, parts_of}
use Rattle.oz_datanode.specs.declared.disks.NodeDisks.{NodeDisks}
use Rattle.oz_entries.specs.Held.{IsSound, belongs_to, row_has}
use Rattle.oz_entries.specs.Node.{Node, has_slot, is_held, is_used}
use Rattle.oz_entries.specs.declared.row.BlockRow.{BlockRow}
use Rattle.oz_entries.specs.declared.row.Chunk.{Chunk}
use Rattle.oz_fields.specs.declared.block.Block.{Block}
use Rattle.oz_node_events.specs.filled.Filled.{BlocksHaveSlots}
use Rattle.oz_scm.specs.grants.Made.{Made}
use Rattle.oz_loaded.specs.Unseated.{UnseatedView}
use Rattle.oz_namespace.specs.declared.namespace.Namespace.{Namespace}
use Rattle.oz_nodes_loaded.specs.Loads.{AreNodesFrom, IsNodeFrom}
use Rattle.oz_rows.specs.RowMaps.{Rows}
use Rattle.oz_world.specs.Disk.{Seen}
use Rattle.oz_nodes_loaded.specs.store_opening.Agreeing.{BlocksAgree}
use Rattle.oz_nodes_loaded.specs.store_opening.Openings.{bytes_on, have_digests, intact_bytes, opening_bytes, opening_of}
use Rattle.oz_nodes_loaded.specs.store_opening.laws.Held.{or_left, or_right, was_held_as}
use Rattle.oz_nodes_loaded.specs.store_opening.laws.Same.{first_row, lengths_by_nodes, or_next}

-- ---- the bytes of chunks

part_length : (size : ℕ) (chunk : Chunk) (slots : List ℕ) → IsWithin chunk.slot slots → length (part_of size chunk slots) ≡ min size SLOT_SIZE
part_length size chunk slots within =
    let taken = length-take (start_of chunk.slot + min size SLOT_SIZE - start_of chunk.slot) (drop (start_of chunk.slot) slots) in
    let left = length-drop (start_of chunk.slot) slots in
    omega (arith, taken, left, within)

parts_length : (size : ℕ) (chunks : List Chunk) (slots : List ℕ) → size ≤ length chunks * SLOT_SIZE
    → ((slot : ℕ) → list_any (λ (chunk : Chunk). eqb chunk.slot slot) chunks ≡ true → IsWithin slot slots)
    → length (parts_of size chunks slots) ≡ size
unfolding parts_of
parts_length size [] slots enough within = omega (arith, enough)
parts_length size (chunk ∷ chunks) slots enough within =
    let first = part_length size chunk slots
    (within chunk.slot (or_left (eqb chunk.slot chunk.slot) (list_any (λ (c : Chunk). eqb c.slot chunk.slot) chunks)
    (eq-eqb chunk.slot chunk.slot refl))) in
    let others = parts_length (size - SLOT_SIZE) chunks slots (omega (arith, enough))
    (λ slot has. within slot (or_right (eqb chunk.slot slot) (list_any (λ (c : Chunk). eqb c.slot slot) chunks) has)) in
    let both = length-append (part_of size chunk slots) (parts_of (size - SLOT_SIZE) chunks slots) in
    omega (arith, first, others, both)

-- ---- of one datanode

-- a slot of a block's row is in use
row_used : (node : Node) → IsSound node → (block : Block) (row : BlockRow) → node.rows block ≡ Some row → (slot : ℕ) → has_slot row slot ≡ true
    → is_used node slot ≡ true
row_used node sound block row has slot its = by (node.users slot) refl
  where
    by : (user : Option Block) → node.users slot ≡ user → is_some user ≡ true
    by None is = ap (λ (o : Option Block). belongs_to o block) (sym is) ∙ (sound slot block ∙ (ap (λ (o : Option BlockRow). row_has o slot) has ∙ its))
    by (Some user) is = refl

-- what a datanode that was loaded has of a block has the length of its row
module _ {D : Type 0} (see : D → Seen) (apart : (bytes : List ℕ) (node : Node) → StandsForNode bytes node → BlocksHaveSlots node) where
  slots_apart : (told : Option (List ℕ)) (node : Node) → IsSome told → IfSome told (λ bytes. StandsForNode bytes node) → BlocksHaveSlots node
  slots_apart None node some stands = absurd (false≢true some)
  slots_apart (Some bytes) node some stands = apart bytes node stands

  all_within : (told : Option (List ℕ)) (slots : List ℕ) (node : Node) → told ≡ Some slots
      → IfSome told (λ bytes. (slot : ℕ) → is_used node slot ≡ true → IsWithin slot bytes) → (slot : ℕ) → is_used node slot ≡ true → IsWithin slot slots
  all_within None slots node is within = absurd cc
  all_within (Some bytes) slots node is within = λ slot used. subst (IsWithin slot) (cc) (within slot used)

  -- a datanode whose journal was told
  record IsTold (node : Datanode D) : Type 0 where
    dn : ℕ
    disks : NodeDisks D
    tells : IsSome (see disks.meta).told
    from : IsNodeFrom see dn disks node

  told_at : (first : ℕ) (all : List (NodeDisks D)) (nodes : List (Datanode D)) → All (λ (disks : NodeDisks D). IsSome (see disks.meta).told) all
      → AreNodesFrom see first all nodes
      → (at : ℕ) (node : Datanode D) → slice_get nodes at ≡ Some node → IsTold node
  told_at first [] [] tell are at node is = absurd cc
  told_at first [] (other ∷ nodes) tell are at node is = absurd are
  told_at first (disks ∷ all) [] tell are at node is = absurd are
  told_at first (disks ∷ all) (other ∷ nodes) tell are zero node is =
      let one : other ≡ node = cc in
      subst IsTold one (record { dn = first; disks = disks; tells = tell zero disks (omega arith); from = are.0 })
  told_at first (disks ∷ all) (other ∷ nodes) tell are (suc at) node is =
      told_at (first + 1) all nodes (λ k d within. tell (suc k) d (omega (arith, within))) are.1 at node is

  -- the bytes of a block, if they are intact, are as many as its row says
  content_length : (node : Datanode D) (block : Block) (row : BlockRow) (content : List ℕ) → IsTold node → (node_in node).rows block ≡ Some row
      → bytes_on see node block ≡ Some content → length content ≡ row.length
  content_length node block row content told has is =
      by (see (slots_of node)).told refl
      (sym (ap (λ (o : Option BlockRow). option_and_then (λ (r : BlockRow). option_and_then (intact_bytes r) (see (slots_of node)).told) o) has) ∙ is)
    where
      by : (o : Option (List ℕ)) → (see (slots_of node)).told ≡ o → option_and_then (intact_bytes row) o ≡ Some content → length content ≡ row.length
      by None tells e = absurd cc
      by (Some slots) tells e = tested (have_digests row.length row.chunks slots) e
        where
          many : length (bytes_of row slots) ≡ row.length
          many =
              let has_slots = slots_apart (see told.disks.meta).told (node_in node) told.tells told.from.stands in
              let fits = has_slots.fit block row has in
              let count = fits.count in
              parts_length row.length row.chunks slots (omega (arith, count))
              (λ slot its. all_within (see told.disks.slots).told slots (node_in node) (sym told.from.slots.contents ∙ tells) told.from.within slot
              (row_used (node_in node) has_slots.sound block row has slot its))

          tested : (t : Bool) → cond t (Some (bytes_of row slots)) None ≡ Some content → length content ≡ row.length
          tested true e = let same : bytes_of row slots ≡ content = cc in ap (λ (b : List ℕ). length b) (sym same) ∙ many
          tested false e = absurd cc

-- ---- of all datanodes

-- the first datanode that has a row of a block
record IsFirst {D : Type 0} (nodes : List (Datanode D)) (block : Block) : Type 0 where
  dn : ℕ
  node : Datanode D
  row : BlockRow
  there : slice_get nodes dn ≡ Some node
  has : (node_in node).rows block ≡ Some row
  is : first_row block (map node_in nodes) ≡ Some row.length

first_of : {D : Type 0} (nodes : List (Datanode D)) (dn : ℕ) (node : Datanode D) (block : Block) (row : BlockRow) → slice_get nodes dn ≡ Some node
    → (node_in node).rows block ≡ Some row → IsFirst nodes block
first_of [] dn node block row at has = absurd cc
first_of (first ∷ nodes) zero node block row at has =
    let one : first ≡ node = cc in
    let its : (node_in first).rows block ≡ Some row = ap (λ n. (node_in n).rows block) one ∙ has in
    record {
      dn = zero;
      node = first;
      row = row;
      there = refl;
      has = its;
      is = ap (λ (o : Option BlockRow). or_next o (first_row block (map node_in nodes))) its;
    }
first_of (first ∷ nodes) (suc dn) node block row at has = by ((node_in first).rows block) refl (first_of nodes dn node block row at has)
  where
    by : (o : Option BlockRow) → (node_in first).rows block ≡ o → IsFirst nodes block → IsFirst (first ∷ nodes) block
    by None none later = record {
      dn = suc later.dn;
      node = later.node;
      row = later.row;
      there = later.there;
      has = later.has;
      is = ap (λ (o : Option BlockRow). or_next o (first_row block (map node_in nodes))) none ∙ later.is;
    }
    by (Some own) its later = record {
      dn = zero;
      node = first;
      row = own;
      there = refl;
      has = its;
      is = ap (λ (o : Option BlockRow). or_next o (first_row block (map node_in nodes))) its;
    }

module _ {D : Type 0} (see : D → Seen) (apart : (bytes : List ℕ) (node : Node) → StandsForNode bytes node → BlocksHaveSlots node)
    (all : Rows) (unseated : UnseatedView) (namespace : Namespace) (made : Made) (disks : List (NodeDisks D)) (nodes : List (Datanode D))
    (tell : All (λ (own : NodeDisks D). IsSome (see own.meta).told) disks) (are : AreNodesFrom see 0 disks nodes)
    (agree : BlocksAgree all (opening_of unseated namespace made nodes) (opening_bytes see nodes)) where
  abbrev opening : Opening
  opening = opening_of unseated namespace made nodes

  holds : (dn : ℕ) (node : Datanode D) (block : Block) (row : BlockRow) → slice_get nodes dn ≡ Some node → (node_in node).rows block ≡ Some row
      → was_held opening dn block ≡ true
  holds dn node block row at has =
      was_held_as block nodes dn
      ∙ (ap (λ (o : Option (Datanode D)). option_map_or (λ (n : Datanode D). is_held (node_in n) block) o false) at
      ∙ ap (λ (o : Option BlockRow). is_some o) has)

  its_bytes : (dn : ℕ) (node : Datanode D) (block : Block) → slice_get nodes dn ≡ Some node → opening_bytes see nodes dn block ≡ bytes_on see node block
  its_bytes dn node block at = ap (option_and_then (λ (n : Datanode D). bytes_on see n block)) at

  some_of : (o : Option (List ℕ)) → IsSome o → (content : List ℕ) × (o ≡ Some content)
  some_of None none = absurd (false≢true none)
  some_of (Some content) some = (content, refl)

  pub lengths_agree : (dn : ℕ) (node : Datanode D) (block : Block) (row : BlockRow) → slice_get nodes dn ≡ Some node → (node_in node).rows block ≡ Some row
      → length_of opening [] block ≡ Some row.length
  lengths_agree dn node block row at has =
      let first = first_of nodes dn node block row at has in
      let held = holds dn node block row at has in
      let also = holds first.dn first.node block first.row first.there first.has in
      let found = some_of (opening_bytes see nodes dn block) (agree.digests_match block dn held) in
      let own = content_length see apart node block row found.0 (told_at see apart 0 disks nodes tell are dn node at) has
      (sym (its_bytes dn node block at) ∙ found.1) in
      let its = content_length see apart first.node block first.row found.0 (told_at see apart 0 disks nodes tell are first.dn first.node first.there) first.has
      (sym (its_bytes first.dn first.node block first.there) ∙ (agree.alike block first.dn dn also held ∙ found.1)) in
      let same : first.row.length ≡ row.length = sym its ∙ own in
      lengths_by_nodes nodes block ∙ (first.is ∙ ap (λ (n : ℕ). Some n) same)

  pub lengths_of_bytes : (block : Block) (dn count : ℕ) (content : List ℕ) → opening_bytes see nodes dn block ≡ Some content
      → length_of opening [] block ≡ Some count → count ≡ length content
  lengths_of_bytes block dn count content gives is = by_node (slice_get nodes dn) refl gives
    where
      by_row : (node : Datanode D) → slice_get nodes dn ≡ Some node → (o : Option BlockRow) → (node_in node).rows block ≡ o
          → option_and_then (λ (row : BlockRow). option_and_then (intact_bytes row) (see (slots_of node)).told) o ≡ Some content → count ≡ length content
      by_row node at None none e = absurd cc
      by_row node at (Some row) has e =
          let own = content_length see apart node block row content (told_at see apart 0 disks nodes tell are dn node at) has
          (ap (λ (o : Option BlockRow). option_and_then (λ (row : BlockRow). option_and_then (intact_bytes row) (see (slots_of node)).told) o) has ∙ e) in
          let agreed = lengths_agree dn node block row at has in
          same_Some count row.length (sym is ∙ agreed) ∙ sym own

      by_node : (o : Option (Datanode D)) → slice_get nodes dn ≡ o → option_and_then (λ (node : Datanode D). bytes_on see node block) o ≡ Some content
          → count ≡ length content
      by_node None none e = absurd cc
      by_node (Some node) at e = by_row node at ((node_in node).rows block) refl e
