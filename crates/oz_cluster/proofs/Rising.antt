-- Which disk counted a fault.
use Rattle.std.proofs.Common.{◌≡◌, ◌⊎◌, ⊎_elim, inl, inr, ℕ, zero, suc, ◌+◌, ◌-◌, ◌^◌, ◌<◌, ◌≤◌, Bool, min, List, [], ◌∷◌, ◌++◌, map, Option, None, Some, slice_get, refl, sym, ap, subst, arith}
use Rattle.std.proofs.lemmas.Bool.{cases_lt}
use Rattle.std.specs.Prelude.{Any}
use Rattle.oz_world.specs.Disk.{Seen}
use Rattle.oz_world.specs.Faults.{Rose}
use Rattle.oz_cluster.specs.Disks.{ADiskRose, IsAtLast}
use Rattle.oz_datanode.specs.declared.disks.NodeDisks.{NodeDisks}
use Rattle.oz_core.specs.declared.event.Event.{Event}
use Rattle.oz_core.specs.declared.event.Node.{Node}
use Rattle.oz_core.specs.declared.event.Node.TheVariants as kind
use Rattle.oz_datanode.specs.Datanode.{State as Datanode, meta_of, slots_of}
use Rattle.oz_running.specs.declared.disk_run.disks.Disks.{Disks}
use Rattle.oz_running.specs.disk_run.Disks.{disks_of_nodes, other_disks}
use Rattle.oz_running.specs.disk_run.StoreRun.{IsStoreRun}
use Rattle.oz_running.specs.halts.Rising.{DatanodeRose, ItsCountRose}
use Rattle.oz_script.specs.declared.lines.script.Script.{Script as Lines}
use Rattle.oz_running.specs.disk_run.Refused.{IsRefusedFor, ManagerIsRefused, NodesAreRefused, ManagerIsSo, store_fault_of}
use Rattle.oz_journal.specs.declared.load_fault.LoadFault.{LoadFault}
use Rattle.oz_journal.specs.declared.load_fault.LoadFault.TheVariants as load
use Rattle.oz_running.specs.disk_name.DiskName.{DiskName}
use Rattle.oz_running.specs.disk_name.DiskName.TheVariants as disk
use Rattle.oz_running.specs.fault.StoreFault.TheVariants as store
use Rattle.oz_running.specs.Loads.{AreNodesFrom, IsNodeFrom, disks_in}
use Rattle.oz_running.specs.Refused.{EndsAt}

here : {X : Type 0} (P : X → Type 0) (x : X) (xs : List X) → P x → Any P (x ∷ xs)
here P x xs p = (0, x, omega arith, refl, p)

there : {X : Type 0} (P : X → Type 0) (x : X) (xs : List X) → Any P xs → Any P (x ∷ xs)
there P x xs at = (suc at.0, at.1, omega (arith, at.2), at.3, at.4)

module _ {D : Type 0} (see : D → Seen) where
  abbrev HasRisen : DiskName × (D × D) → Type 0
  HasRisen it = Rose (see it.1.0).faults (see it.1.1).faults

  -- of the disks of datanodes, the first one's, or one behind those that were loaded
  at_meta : (number : ℕ) (own left : NodeDisks D) (nodes later : List (NodeDisks D)) → Rose (see own.meta).faults (see left.meta).faults → Any HasRisen (disks_of_nodes number (own ∷ nodes) (left ∷ later))
  at_meta number own left nodes later rose = here HasRisen (disk.Meta number, (own.meta, left.meta)) ((disk.Slots number, (own.slots, left.slots)) ∷ disks_of_nodes (number + 1) nodes later) rose

  at_slots : (number : ℕ) (own left : NodeDisks D) (nodes later : List (NodeDisks D)) → Rose (see own.slots).faults (see left.slots).faults → Any HasRisen (disks_of_nodes number (own ∷ nodes) (left ∷ later))
  at_slots number own left nodes later rose =
      there HasRisen (disk.Meta number, (own.meta, left.meta)) ((disk.Slots number, (own.slots, left.slots)) ∷ disks_of_nodes (number + 1) nodes later)
      (here HasRisen (disk.Slots number, (own.slots, left.slots)) (disks_of_nodes (number + 1) nodes later) rose)

  behind : (number : ℕ) (first : List (NodeDisks D)) (loaded : List (Datanode D)) (nodes later : List (NodeDisks D)) → AreNodesFrom see number first loaded
      → ((n : ℕ) → Any HasRisen (disks_of_nodes n nodes later)) → Any HasRisen (disks_of_nodes number (first ++ nodes) (map disks_in loaded ++ later))
  behind number [] [] nodes later are risen = risen number
  behind number [] (node ∷ loaded) nodes later are risen = absurd are
  behind number (own ∷ first) [] nodes later are risen = absurd are
  behind number (own ∷ first) (node ∷ loaded) nodes later are risen =
      let left = disks_in node in
      let rest = disks_of_nodes (number + 1) (first ++ nodes) (map disks_in loaded ++ later) in
      there HasRisen (disk.Meta number, (own.meta, left.meta)) ((disk.Slots number, (own.slots, left.slots)) ∷ rest)
      (there HasRisen (disk.Slots number, (own.slots, left.slots)) rest (behind (number + 1) first loaded nodes later are.1 risen))

  disks_at : (k : ℕ) (nodes : List (Datanode D)) (node : Datanode D) → slice_get nodes k ≡ Some node → slice_get (map disks_in nodes) k ≡ Some (disks_in node)
  disks_at k [] node at = absurd cc
  disks_at zero (first ∷ nodes) node at = let same : first ≡ node = cc in ap (λ (n : Datanode D). Some (disks_in n)) same
  disks_at (suc k) (first ∷ nodes) node at = disks_at k nodes node at

  -- where the count of a datanode rose, that of one of its disks did, or the count stands at its last value
  which_rose : (was_meta was_slots meta slots : ℕ) → Rose (min (was_meta + was_slots) (2 ^ 64 - 1)) (min (meta + slots) (2 ^ 64 - 1))
      → Rose was_meta meta ⊎ (Rose was_slots slots ⊎ (2 ^ 64 - 1 ≤ meta + slots))
  which_rose was_meta was_slots meta slots rose =
      ⊎_elim (λ less. ⊎_elim (λ first. inl (omega (arith, first))) (λ other. inr (inl (omega (arith, rose, less, other)))) (cases_lt was_meta meta))
      (λ last. inr (inr last)) (cases_lt (meta + slots) (2 ^ 64 - 1))

  -- the disks at the place of a datanode that was loaded, and is so at the end
  place_of : (number k : ℕ) (disks : List (NodeDisks D)) (loaded : List (Datanode D)) (later : List (NodeDisks D)) (was : Datanode D) (own : NodeDisks D) → AreNodesFrom see number disks loaded
      → slice_get loaded k ≡ Some was → slice_get later k ≡ Some own
      → Rose (see (meta_of was)).faults (see own.meta).faults ⊎ (Rose (see (slots_of was)).faults (see own.slots).faults ⊎ IsAtLast see own)
      → Any HasRisen (disks_of_nodes number disks later) ⊎ Any (IsAtLast see) later
  place_of number k [] [] later was own are at left rose = absurd cc
  place_of number k [] (first ∷ loaded) later was own are at left rose = absurd are
  place_of number k (disks ∷ others) [] later was own are at left rose = absurd are
  place_of number k (disks ∷ others) (first ∷ loaded) [] was own are at left rose = absurd cc
  place_of number zero (disks ∷ others) (first ∷ loaded) (last ∷ later) was own are at left rose =
      let same : first ≡ was = cc in
      let this : last ≡ own = cc in
      let from = subst (λ (n : Datanode D). IsNodeFrom see number disks n) same are.0 in
      let meta_no_fewer = from.meta.never_falls in
      let slots_no_fewer = from.slots.never_falls in
      subst (λ (o : NodeDisks D). Any HasRisen (disks_of_nodes number (disks ∷ others) (o ∷ later)) ⊎ Any (IsAtLast see) (o ∷ later)) (sym this)
      (⊎_elim (λ meta. inl (at_meta number disks own others later (omega (arith, meta, meta_no_fewer))))
      (λ rest. ⊎_elim (λ slots. inl (at_slots number disks own others later (omega (arith, slots, slots_no_fewer)))) (λ is_last. inr (here (IsAtLast see) own later is_last)) rest)
      rose)
  place_of number (suc k) (disks ∷ others) (first ∷ loaded) (last ∷ later) was own are at left rose =
      let rest = disks_of_nodes (number + 1) others later in
      ⊎_elim
      (λ risen. inl (there HasRisen (disk.Meta number, (disks.meta, last.meta)) ((disk.Slots number, (disks.slots, last.slots)) ∷ rest) (there HasRisen (disk.Slots number, (disks.slots, last.slots)) rest risen)))
      (λ is_last. inr (there (IsAtLast see) last later is_last))
      (place_of (number + 1) k others loaded later was own are.1 at left rose)

  module _ (before after : Disks D) where
    scm_rose : Rose (see before.scm).faults (see after.scm).faults → ADiskRose see before after
    scm_rose rose =
        inl (there HasRisen (disk.Manager, (before.manager, after.manager)) (other_disks before after)
        (here HasRisen (disk.Scm, (before.scm, after.scm)) (disks_of_nodes 0 before.nodes.items after.nodes.items) rose))

    nodes_rose : Any HasRisen (disks_of_nodes 0 before.nodes.items after.nodes.items) → ADiskRose see before after
    nodes_rose rose =
        inl (there HasRisen (disk.Manager, (before.manager, after.manager)) (other_disks before after)
        (there HasRisen (disk.Scm, (before.scm, after.scm)) (disks_of_nodes 0 before.nodes.items after.nodes.items) rose))

    pub manager_rose : Rose (see before.manager).faults (see after.manager).faults → ADiskRose see before after
    manager_rose rose = inl (here HasRisen (disk.Manager, (before.manager, after.manager)) (other_disks before after) rose)

    end_rose : {dn : ℕ} {Why : NodeDisks D → NodeDisks D → Type 0} → (end : EndsAt see dn Why before.nodes.items after.nodes.items)
        → ((n : ℕ) → Any HasRisen (disks_of_nodes n (end.own ∷ end.behind) (end.left ∷ end.behind))) → ADiskRose see before after
    end_rose end risen =
        nodes_rose
        (subst (λ (l : List (NodeDisks D)). Any HasRisen (disks_of_nodes 0 l after.nodes.items)) (sym end.were)
        (subst (λ (l : List (NodeDisks D)). Any HasRisen (disks_of_nodes 0 (end.first ++ end.own ∷ end.behind) l)) (sym end.came_back)
        (behind 0 end.first end.loaded (end.own ∷ end.behind) (end.left ∷ end.behind) end.are risen)))

    by_manager : (name : DiskName) → ManagerIsRefused see before after (store.Disk name) → ADiskRose see before after
    by_manager name refused = by refused.why refused.so refused.named
      where
        by : (why : LoadFault) → ManagerIsSo (see before.manager) (see after.manager) why → store.Disk name ≡ store_fault_of why → ADiskRose see before after
        by load.Disk so named = manager_rose so
        by (load.Damaged offset) so named = absurd (cc named)
        by load.OutOfMemory so named = absurd (cc named)

    by_nodes : (name : DiskName) → NodesAreRefused see before after (store.Disk name) → ADiskRose see before after
    by_nodes disk.Manager refused = absurd refused.so
    by_nodes disk.Scm refused = scm_rose refused.so.0
    by_nodes (disk.Meta dn) refused = let end = refused.so.1 in end_rose end (λ n. at_meta n end.own end.left end.behind end.behind end.why.0)
    by_nodes (disk.Slots dn) refused = let end = refused.so.1 in end_rose end (λ n. at_slots n end.own end.left end.behind end.behind end.why.1)

    -- the disk that failed while it was loaded counted a fault
    pub disk_rose : (name : DiskName) → IsRefusedFor see before after (store.Disk name) → ADiskRose see before after
    disk_rose name refused = ⊎_elim (by_manager name) (by_nodes name) refused

    -- a disk of a node whose count rose in the work counted a fault
    module _ (script : Lines) (any_halted : Bool) (story : List Event) (is_done : Bool) (run : IsStoreRun see script before after any_halted story is_done) where
      datanode_rose : (dn : ℕ) → DatanodeRose (λ (d : D). (see d).faults) dn run.nodes.datanodes run.left.datanodes → ADiskRose see before after
      datanode_rose dn its =
          let own = disks_in its.after in
          let at : slice_get after.nodes.items dn ≡ Some own =
          subst (λ (l : List (NodeDisks D)). slice_get l dn ≡ Some own) (sym run.nodes_left) (disks_at dn run.left.datanodes its.after its.is_after) in
          ⊎_elim nodes_rose (λ is_last. inr is_last)
          (place_of 0 dn before.nodes.items run.nodes.datanodes after.nodes.items its.loaded own run.nodes_loaded its.was_loaded at
          (which_rose (see (meta_of its.loaded)).faults (see (slots_of its.loaded)).faults (see own.meta).faults (see own.slots).faults its.rose))

      pub node_rose : (of : Node) → ItsCountRose (λ (d : D). (see d).faults) run.over.faults (see after.manager).faults run.nodes run.left of → ADiskRose see before after
      node_rose kind.Manager rose = let no_fewer = run.over.no_fewer in manager_rose (omega (arith, no_fewer, rose))
      node_rose kind.Scm rose =
          let no_fewer = run.scm_loaded.left.never_falls in
          scm_rose (subst (λ (d : D). Rose (see before.scm).faults (see d).faults) (sym run.scm_left) (omega (arith, no_fewer, rose)))
      node_rose (kind.Datanode dn) its = datanode_rose dn its
