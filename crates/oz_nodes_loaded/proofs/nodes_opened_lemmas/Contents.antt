-- What a datanode that was loaded has of its blocks, and what a stop leaves of them.
use Rattle.std.proofs.Common.{◌≡◌, ℕ, true, List, Option, None, Some, is_some, refl, sym, ap, ◌∙◌, subst}
use Rattle.std.proofs.lemmas.Bool.{false≢true}
use Rattle.std.specs.Prelude.{IfSome, IsSome, IsSomeAnd}
use Rattle.std.specs.Option.{option_and_then}
use Rattle.oz_block.specs.Blocks.{StandsFor}
use Rattle.oz_chunk.specs.Slots.{IsWithin}
use Rattle.oz_core.specs.Contents.{OpeningBytes}
use Rattle.oz_datanode.specs.Datanode.{State as Datanode, meta_of, node_in, slots_of}
use Rattle.oz_datanode.specs.Pairs.{Content, HaveAll, HaveDigests, Has, PairHolds, bytes_of}
use Rattle.oz_datanode.specs.Writing.{intact}
use Rattle.oz_datanode.specs.declared.disks.NodeDisks.{NodeDisks}
use Rattle.oz_entries.specs.Held.{IsSound, belongs_to, row_has}
use Rattle.oz_entries.specs.Node.{Node, has_slot, is_used}
use Rattle.oz_entries.specs.declared.row.BlockRow.{BlockRow}
use Rattle.oz_fields.specs.declared.block.Block.{Block}
use Rattle.oz_node_events.specs.filled.Filled.{BlocksHaveSlots}
use Rattle.oz_node_events.specs.NodeSeat.{HasOpeningBytes}
use Rattle.oz_nodes_loaded.specs.Loads.{IsNodeFrom}
use Rattle.oz_nodes_loaded.specs.store_opening.Openings.{bytes_on, intact_bytes}
use Rattle.oz_world.specs.Disk.{IsStable, Seen, TellsAsBefore}

pub some_inside : (o : Option (List ℕ)) → IsSome o → (bytes : List ℕ) × (o ≡ Some bytes)
some_inside None none = absurd (false≢true none)
some_inside (Some bytes) some = (bytes, refl)

inside : (P : List ℕ → Type 0) (o : Option (List ℕ)) (bytes : List ℕ) → o ≡ Some bytes → IfSome o P → P bytes
inside P None bytes is so = absurd cc
inside P (Some other) bytes is so = let same : other ≡ bytes = cc in subst P same so

and_inside : (P : List ℕ → Type 0) (o : Option (List ℕ)) (bytes : List ℕ) → o ≡ Some bytes → IsSomeAnd o P → P bytes
and_inside P None bytes is so = absurd cc
and_inside P (Some other) bytes is so = let same : other ≡ bytes = cc in subst P same so

pub tells_still : (was now : Option (List ℕ)) → IsSome was → TellsAsBefore was now → IsSome now
tells_still was None some same = absurd (false≢true (ap (λ (o : Option (List ℕ)). is_some o) (sym (same.1 refl)) ∙ some))
tells_still was (Some bytes) some same = refl

-- a slot of a block's row is in use
row_used : (node : Node) → IsSound node → (block : Block) (row : BlockRow) → node.rows block ≡ Some row → (slot : ℕ) → has_slot row slot ≡ true → is_used node slot ≡ true
row_used node sound block row has slot its = by (node.users slot) refl
  where
    by : (user : Option Block) → node.users slot ≡ user → is_some user ≡ true
    by None is = ap (λ (o : Option Block). belongs_to o block) (sym is) ∙ (sound slot block ∙ (ap (λ (o : Option BlockRow). row_has o slot) has ∙ its))
    by (Some user) is = refl

module _ {D : Type 0} (see : D → Seen) (dn : ℕ) (disks : NodeDisks D) (node : Datanode D) (from : IsNodeFrom see dn disks node) (tells : IsSome (see disks.meta).told) where
  -- the bytes that stand beside the opening are on the disk of slots
  pub opened_bytes : (apart : (bytes : List ℕ) (node : Node) → StandsFor bytes node → BlocksHaveSlots node)
      (tested : (row : BlockRow) (slots content : List ℕ) → intact_bytes row slots ≡ Some content → (bytes_of row slots ≡ content) × HaveDigests row.length row.chunks slots)
      (bytes : OpeningBytes) (id : ℕ) (block : Block) (row : BlockRow) → (node_in node).rows block ≡ Some row
      → bytes id block ≡ bytes_on see node block → IsSome (bytes id block) → HasOpeningBytes bytes id block row (see (slots_of node)).told
  opened_bytes apart tested bytes id block row has its some = record { content = found.0; are = found.1; has = by (see (slots_of node)).told refl }
    where
      found : (content : List ℕ) × (bytes id block ≡ Some content)
      found = some_inside (bytes id block) some

      slots_of_blocks : BlocksHaveSlots (node_in node)
      slots_of_blocks =
          let journal = some_inside (see disks.meta).told tells in
          apart journal.0 (node_in node) (inside (λ (l : List ℕ). StandsFor l (node_in node)) (see disks.meta).told journal.0 journal.1 from.stands)

      by : (o : Option (List ℕ)) → (see (slots_of node)).told ≡ o → IfSome o (Has (intact found.0) row)
      by None is = tt
      by (Some slots) is =
          let test : intact_bytes row slots ≡ Some found.0 =
          ap (λ (o : Option (List ℕ)). option_and_then (intact_bytes row) o) (sym is)
          ∙ (ap (λ (o : Option BlockRow). option_and_then (λ (r : BlockRow). option_and_then (intact_bytes r) (see (slots_of node)).told) o) (sym has)
          ∙ (sym its ∙ found.1)) in
          let both = tested row slots found.0 test in
          record {
            within = λ slot in_row.
                inside (λ (l : List ℕ). (slot : ℕ) → is_used (node_in node) slot ≡ true → IsWithin slot l) (see disks.slots).told slots (sym from.slots.contents ∙ is) from.within
                slot (row_used (node_in node) slots_of_blocks.sound block row has slot in_row);
            bytes = both.0;
            digests = λ are. both.1;
          }

  -- a stop leaves of each block what is read of it
  pub loaded_pairs : (one : (bytes : List ℕ) (node other : Node) → StandsFor bytes node → StandsFor bytes other → node ≡ other)
      → IsSomeAnd (see (meta_of node)).told (λ bytes. StandsFor bytes (node_in node)) → (contents : Block → Content)
      → (IsSome (see (meta_of node)).told → IfSome (see (slots_of node)).told (HaveAll contents (node_in node)))
      → PairHolds contents (node_in node) (see (meta_of node)) (see (slots_of node))
  loaded_pairs one stands contents read = record {
    read = read;
    left = λ journal_tells slots_tell bytes other left_journal left_slots kept also.
        let journal = some_inside (see (meta_of node)).told journal_tells in
        let slots = some_inside (see (slots_of node)).told slots_tell in
        let same : bytes ≡ journal.0 = from.meta_stable journal.0 journal.1 bytes left_journal in
        let same_slots : other ≡ slots.0 =
        inside (λ (l : List ℕ). IsStable (see (slots_of node)).image (see (slots_of node)).clock l) (see disks.slots).told slots.0 (sym from.slots.contents ∙ slots.1) from.slots_stable other left_slots in
        let here = and_inside (λ (l : List ℕ). StandsFor l (node_in node)) (see (meta_of node)).told journal.0 journal.1 stands in
        let node_same : kept ≡ node_in node = one journal.0 kept (node_in node) (subst (λ (l : List ℕ). StandsFor l kept) same also) here in
        let have = inside (λ (l : List ℕ). HaveAll contents (node_in node) l) (see (slots_of node)).told slots.0 slots.1 (read journal_tells) in
        subst (λ (n : Node). HaveAll contents n other) (sym node_same) (subst (λ (l : List ℕ). HaveAll contents (node_in node) l) (sym same_slots) have);
  }
