-- Disks that load have no fault in their bytes.
use Rattle.std.proofs.Common.{◌≡◌, ℕ, ◌+◌, Bool, true, false, List, [], ◌∷◌, ◌++◌, length, map, Option, None, Some, IfSome, IsSomeAnd, refl, sym, ◌∙◌, ap, subst, arith}
use Rattle.std.specs.List.{AllZip}
use Rattle.oz_block.specs.Blocks.{StandsFor as StandsForNode, IsDamagedDisk}
use Rattle.oz_datanode.specs.Datanode.{State as Datanode, AreDamaged, BothStandFor, node_in}
use Rattle.oz_datanode.specs.declared.disks.NodeDisks.{NodeDisks}
use Rattle.oz_entries.specs.Node.{Node}
use Rattle.oz_scm.specs.grants.Made.{Made}
use Rattle.oz_nodes_loaded.specs.declared.disk_name.DiskName.TheVariants as disk
use Rattle.oz_scm.specs.Scm.{StandsFor, IsOfNodes, IsDamagedDisk as IsDamagedScm}
use Rattle.oz_world.specs.Disk.{Seen}
use Rattle.oz_nodes_loaded.specs.AllLoad.{AllLoad, NodeStands, is_of_bytes}
use Rattle.oz_nodes_loaded.specs.Ids.{IsSeen}
use Rattle.oz_nodes_loaded.specs.Loads.{AreNodesFrom}
use Rattle.oz_nodes_loaded.specs.Refused.{IdsDisagree, IsSo}
use Rattle.oz_nodes_loaded.specs.declared.fault.StoreFault.{StoreFault}
use Rattle.oz_nodes_loaded.specs.declared.fault.StoreFault.TheVariants.{Disk, Damaged, Nodes, Ids, OutOfMemory}

-- both are told, and what is told of the first one holds
both : {A : Type 0} {P Q : A → Type 0} {R : Type 0} (told : Option A) → IsSomeAnd told P → IfSome told Q
    → ((x : A) → P x → Q x → R) → R
both None is if then = absurd is
both (Some x) is if then = then x is if

module _ {D : Type 0} (see : D → Seen)
    (one_node : (bytes : List ℕ) (node other : Node) → StandsForNode bytes node → StandsForNode bytes other → node ≡ other)
    (node_not_both : (bytes : List ℕ) (node : Node) (offset : ℕ) → StandsForNode bytes node → IsDamagedDisk bytes offset → ⊥)
    (both_not_both : (journal slots : List ℕ) (node : Node) (of_slots : Bool) (offset : ℕ) → BothStandFor journal slots node
    → AreDamaged of_slots journal slots offset → ⊥)
    (one_thing : (given : ℕ) (bytes : List ℕ) (made other : Made) → StandsFor given bytes made → StandsFor given bytes other
    → made ≡ other)
    (one_number : (given recorded : ℕ) (bytes : List ℕ) (made : Made) → StandsFor given bytes made → IsOfNodes recorded bytes
    → recorded ≡ given)
    (scm_not_both : (given : ℕ) (bytes : List ℕ) (made : Made) (offset : ℕ) → StandsFor given bytes made
    → IsDamagedScm bytes offset → ⊥) where
  -- a datanode among others
  stands_among : (first behind : List (NodeDisks D)) (own : NodeDisks D) (held : List Node)
      → AllZip (NodeStands see) (first ++ own ∷ behind) held → (node : Node) × NodeStands see own node
  stands_among [] behind own [] all = absurd all
  stands_among [] behind own (node ∷ held) all = (node, all.0)
  stands_among (disks ∷ first) behind own [] all = absurd all
  stands_among (disks ∷ first) behind own (node ∷ held) all = stands_among first behind own held all.1

  stands_in : (nodes first behind : List (NodeDisks D)) (own : NodeDisks D) (held : List Node) → AllZip (NodeStands see) nodes held
      → nodes ≡ first ++ own ∷ behind → (node : Node) × NodeStands see own node
  stands_in nodes first behind own held all were =
      stands_among first behind own held (subst (λ (l : List (NodeDisks D)). AllZip (NodeStands see) l held) were all)

  meta_not_damaged : (own : NodeDisks D) (node : Node) (offset : ℕ) → NodeStands see own node
      → IfSome (see own.meta).told (λ bytes. IsDamagedDisk bytes offset) → ⊥
  meta_not_damaged own node offset stands damaged =
      both (see own.meta).told stands damaged (λ journal here bad. both (see own.slots).told here bad_if_told (λ slots whole t. node_not_both journal node offset whole.stands bad))
    where
      bad_if_told : IfSome (see own.slots).told (λ slots. Unit {0})
      bad_if_told = tell (see own.slots).told
        where
          tell : (told : Option (List ℕ)) → IfSome told (λ slots. Unit {0})
          tell None = tt
          tell (Some slots) = tt

  slots_not_damaged : (own : NodeDisks D) (node : Node) (offset : ℕ) → NodeStands see own node
      → IfSome (see own.meta).told (λ journal. IfSome (see own.slots).told (λ slots. AreDamaged true journal slots offset)) → ⊥
  slots_not_damaged own node offset stands damaged =
      both (see own.meta).told stands damaged (λ journal here bad. both (see own.slots).told here bad (λ slots whole worse. both_not_both journal slots node true offset whole worse))

  -- what was loaded of a datanode is what its disks stand for
  same_node : (told slots : Option (List ℕ)) (made node : Node) → IfSome told (λ bytes. StandsForNode bytes made)
      → IsSomeAnd told (λ journal. IsSomeAnd slots (λ slots. BothStandFor journal slots node)) → made ≡ node
  same_node None slots made node is stands = absurd stands
  same_node (Some bytes) None made node is stands = absurd stands
  same_node (Some bytes) (Some slots) made node is stands = one_node bytes made node is stands.stands

  same_nodes : (dn : ℕ) (nodes : List (NodeDisks D)) (loaded : List (Datanode D)) (held : List Node)
      → AreNodesFrom see dn nodes loaded → AllZip (NodeStands see) nodes held → map node_in loaded ≡ held
  same_nodes dn [] [] [] are all = refl
  same_nodes dn [] [] (node ∷ held) are all = absurd all
  same_nodes dn [] (one ∷ loaded) held are all = absurd are
  same_nodes dn (disks ∷ nodes) [] held are all = absurd are
  same_nodes dn (disks ∷ nodes) (one ∷ loaded) [] are all = absurd all
  same_nodes dn (disks ∷ nodes) (one ∷ loaded) (node ∷ held) are all = λ i.
      same_node (see disks.meta).told (see disks.slots).told (node_in one) node are.0.stands all.0 i
      ∷ same_nodes (dn + 1) nodes loaded held are.1 all.1 i

  same_made : (given : ℕ) (told : Option (List ℕ)) (made other : Made) → IfSome told (λ bytes. StandsFor given bytes made)
      → IsSomeAnd told (λ bytes. StandsFor given bytes other) → made ≡ other
  same_made given None made other is stands = absurd stands
  same_made given (Some bytes) made other is stands = one_thing given bytes made other is stands

  module _ (greatest : ℕ) (scm : D) (nodes : List (NodeDisks D)) (all : AllLoad see greatest scm nodes) where
    ids_agree : (scm_left : D) (nodes_left : List (NodeDisks D)) (next id : ℕ)
        → IdsDisagree see greatest next id scm nodes scm_left nodes_left → ⊥
    ids_agree scm_left nodes_left next id not =
        let back = not.scm_came_back in
        let held = same_nodes 0 nodes not.loaded all.held not.are all.nodes_stand in
        let made = same_made (length nodes) (see scm).told back.scm.made all.made back.loaded.stands all.scm_stands in
        let is_seen = subst (λ (l : List Node). IsSeen greatest l id) held not.is_greatest.is_seen in
        let below = all.below id is_seen in
        let next_is : next ≡ all.made.next_id = not.is_next ∙ ap (λ (m : Made). m.next_id) made in
        omega (arith, below, next_is, not.not_below)

    pub none_of_bytes : (scm_left : D) (nodes_left : List (NodeDisks D)) (fault : StoreFault)
        → IsSo see greatest scm nodes scm_left nodes_left fault → is_of_bytes fault ≡ false
    none_of_bytes scm_left nodes_left (Disk name) so = refl
    none_of_bytes scm_left nodes_left OutOfMemory so = refl
    none_of_bytes scm_left nodes_left (Ids next id) so = absurd (ids_agree scm_left nodes_left next id so)
    none_of_bytes scm_left nodes_left (Nodes recorded given) so =
        absurd (both (see scm).told all.scm_stands so.2 (λ bytes stands named. so.1 (one_number (length nodes) recorded bytes all.made stands named ∙ sym so.0)))
    none_of_bytes scm_left nodes_left (Damaged disk.Manager offset) so = absurd so
    none_of_bytes scm_left nodes_left (Damaged disk.Scm offset) so =
        absurd (both (see scm).told all.scm_stands so.0 (λ bytes stands bad. scm_not_both (length nodes) bytes all.made offset stands bad))
    none_of_bytes scm_left nodes_left (Damaged (disk.Meta dn) offset) so =
        let end = so.1 in
        let node = stands_in nodes end.first end.behind end.own all.held all.nodes_stand end.were in
        absurd (meta_not_damaged end.own node.0 offset node.1 end.why.0)
    none_of_bytes scm_left nodes_left (Damaged (disk.Slots dn) offset) so =
        let end = so.1 in
        let node = stands_in nodes end.first end.behind end.own all.held all.nodes_stand end.were in
        absurd (slots_not_damaged end.own node.0 offset node.1 end.why)
