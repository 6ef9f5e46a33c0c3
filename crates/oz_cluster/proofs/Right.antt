-- Nothing is wrong with disks that were loaded.
use Rattle.std.proofs.Common.{◌≡◌, ⊎_elim, inl, inr, ℕ, zero, suc, ◌+◌, ◌<◌, true, List, [], ◌∷◌, map, length, Option, Some, None, IfSome, IsSomeAnd, refl, sym, ◌∙◌, ap, subst, arith}
use Rattle.std.specs.Prelude.{Any, slice_get}
use Rattle.oz_block.specs.Blocks.{StandsFor as StandsForNode, IsDamagedDisk as IsDamagedMeta}
use Rattle.oz_chunk.specs.Slots.{IsWithin}
use Rattle.oz_cluster.specs.Wrong.{IsDamaged, IsOnDisk, IsWrong, MakeARowOf, MetaTells}
use Rattle.oz_datanode.specs.declared.disks.NodeDisks.{NodeDisks}
use Rattle.oz_datanode.specs.Datanode.{State as Datanode, IsLowestPast, node_in}
use Rattle.oz_running.specs.declared.disk_run.disks.Disks.{Disks}
use Rattle.oz_entries.specs.Node.{Node, is_used}
use Rattle.oz_scm.specs.grants.Made.{Made}
use Rattle.oz_journal.specs.Grammar.{IsJournal}
use Rattle.oz_loaded.specs.Loads.{IsDamagedDisk as IsDamagedManager, IsLoaded}
use Rattle.oz_loaded.specs.Unseated.{UnseatedView}
use Rattle.oz_running.specs.disk_name.DiskName.{DiskName}
use Rattle.oz_running.specs.disk_name.DiskName.TheVariants as disk
use Rattle.oz_running.specs.fault.StoreFault.{StoreFault}
use Rattle.oz_running.specs.fault.StoreFault.TheVariants.{Disk, Damaged, Nodes, Ids, OutOfMemory}
use Rattle.oz_running.specs.Ids.{AreBelow, HoldsId}
use Rattle.oz_running.specs.Loads.{AreNodesFrom, IsNodeFrom, IsScmFrom}
use Rattle.oz_rows.specs.declared.entry.RowEntry.{RowEntry}
use Rattle.oz_rows.specs.RowMaps.{row_of}
use Rattle.oz_scm.specs.Scm.{State as Scm, StandsFor as StandsForScm, IsDamagedDisk as IsDamagedScm, IsOfNodes}
use Rattle.oz_world.specs.Disk.{Seen}

-- what a disk tells of which two things are said
both : {A : Type 0} (told : Option A) (P Q : A → Type 0) (R : Type 0) → IfSome told P → IsSomeAnd told Q → ((x : A) → P x → Q x → R) → R
both None P Q R may is so = absurd is
both (Some x) P Q R may is so = so x may is

-- the laws that one disk has one thing
pub record OneThing : Type 0 where
  pub manager : (bytes : List ℕ) (bodies others : List (List ℕ)) (unseated other : UnseatedView) → IsJournal bytes bodies → (this : IsLoaded bodies unseated) → IsJournal bytes others → (that : IsLoaded others other)
      → (this.all ≡ that.all) × (unseated.last_index ≡ other.last_index)
  pub manager_or_damaged : (bytes : List ℕ) (bodies : List (List ℕ)) (unseated : UnseatedView) (offset : ℕ) → IsJournal bytes bodies → IsLoaded bodies unseated → IsDamagedManager bytes offset → ⊥
  pub scm : (given : ℕ) (bytes : List ℕ) (made other : Made) → StandsForScm given bytes made → StandsForScm given bytes other → made ≡ other
  pub scm_number : (given recorded : ℕ) (bytes : List ℕ) (made : Made) → StandsForScm given bytes made → IsOfNodes recorded bytes → recorded ≡ given
  pub scm_or_damaged : (given : ℕ) (bytes : List ℕ) (made : Made) (offset : ℕ) → StandsForScm given bytes made → IsDamagedScm bytes offset → ⊥
  pub node : (bytes : List ℕ) (node other : Node) → StandsForNode bytes node → StandsForNode bytes other → node ≡ other
  pub node_or_damaged : (bytes : List ℕ) (node : Node) (offset : ℕ) → StandsForNode bytes node → IsDamagedMeta bytes offset → ⊥

module _ {D : Type 0} (see : D → Seen) where
  -- a datanode that was loaded, in its place
  node_at : (k : ℕ) (all : List (NodeDisks D)) (nodes : List (Datanode D)) → AreNodesFrom see k all nodes → (dn : ℕ) (disks : NodeDisks D) → slice_get all dn ≡ Some disks
      → (number : ℕ) × ((node : Datanode D) × IsNodeFrom see number disks node × ((P : Node → Type 0) → P (node_in node) → Any P (map node_in nodes)))
  node_at k [] nodes are dn disks is = absurd (cc is)
  node_at k (own ∷ all) [] are dn disks is = absurd are
  node_at k (own ∷ all) (node ∷ nodes) are zero disks is =
      let same : own ≡ disks = cc is in
      (k, (node, subst (λ (d : NodeDisks D). IsNodeFrom see k d node) same are.0, λ P p. (0, node_in node, omega arith, refl, p)))
  node_at k (own ∷ all) (node ∷ nodes) are (suc dn) disks is =
      let rest = node_at (k + 1) all nodes are.1 dn disks is in
      (rest.0, (rest.1.0, rest.1.1, λ P p. let at = rest.1.2 P p in (suc at.0, at.1, omega (arith, at.2), at.3, at.4)))

  module _ (one : OneThing) (disks : Disks D) (bodies : List (List ℕ)) (unseated : UnseatedView) (loaded : IsLoaded bodies unseated) (journal : IfSome (see disks.manager).told (λ bytes. IsJournal bytes bodies))
      (scm : Scm D) (from : IsScmFrom see (length disks.nodes.items) disks.scm scm) (nodes : List (Datanode D)) (are : AreNodesFrom see 0 disks.nodes.items nodes)
      (fresh : AreBelow unseated.greatest_id (map node_in nodes) scm.made.next_id) where
    -- what is said of a datanode's journal is said of what was loaded of it
    meta_is : (dn : ℕ) (Holds : NodeDisks D → List ℕ → Type 0) (R : Type 0) → MetaTells see disks dn Holds
        → ((own : NodeDisks D) (number : ℕ) (node : Datanode D) → IsNodeFrom see number own node → ((P : Node → Type 0) → P (node_in node) → Any P (map node_in nodes))
        → (bytes : List ℕ) → StandsForNode bytes (node_in node) → Holds own bytes → R) → R
    meta_is dn Holds R tells so = by (slice_get disks.nodes.items dn) refl tells
      where
        by : (found : Option (NodeDisks D)) → slice_get disks.nodes.items dn ≡ found → IsSomeAnd found (λ node. IsSomeAnd (see node.meta).told (Holds node)) → R
        by None is tells = absurd tells
        by (Some own) is tells =
            let at = node_at 0 disks.nodes.items nodes are dn own is in
            let its = at.1.1 in
            both (see own.meta).told (λ bytes. StandsForNode bytes (node_in at.1.0)) (Holds own) R its.stands tells (λ bytes stands holds. so own at.0 at.1.0 its at.1.2 bytes stands holds)

    -- no slot in use passes the end
    not_past : (own : NodeDisks D) (number : ℕ) (node : Datanode D) → IsNodeFrom see number own node → (offset : ℕ) (bytes : List ℕ) → StandsForNode bytes (node_in node)
        → IsSomeAnd (see own.slots).told (λ slots. (this : Node) × StandsForNode bytes this × IsLowestPast this (length slots) offset) → ⊥
    not_past own number node its offset bytes stands past =
        both (see own.slots).told (λ slots. (slot : ℕ) → is_used (node_in node) slot ≡ true → IsWithin slot slots) (λ slots. (this : Node) × StandsForNode bytes this × IsLowestPast this (length slots) offset) ⊥ its.within past
        (λ slots within it.
        let same : it.0 ≡ node_in node = one.node bytes it.0 (node_in node) it.1 stands in
        let lowest : IsLowestPast (node_in node) (length slots) offset = subst (λ (n : Node). IsLowestPast n (length slots) offset) same it.2 in
        let fits = within lowest.slot lowest.is_in_use in
        let past = lowest.past in omega (arith, fits, past))

    not_damaged : (name : DiskName) (offset : ℕ) → IsDamaged see disks name offset → ⊥
    not_damaged disk.Manager offset wrong =
        both (see disks.manager).told (λ bytes. IsJournal bytes bodies) (λ bytes. IsDamagedManager bytes offset) ⊥ journal wrong (λ bytes is damaged. one.manager_or_damaged bytes bodies unseated offset is loaded damaged)
    not_damaged disk.Scm offset wrong =
        both (see disks.scm).told (λ bytes. StandsForScm (length disks.nodes.items) bytes scm.made) (λ bytes. IsDamagedScm bytes offset) ⊥ from.stands wrong
        (λ bytes stands damaged. one.scm_or_damaged (length disks.nodes.items) bytes scm.made offset stands damaged)
    not_damaged (disk.Meta dn) offset wrong =
        meta_is dn (λ node bytes. IsDamagedMeta bytes offset) ⊥ wrong (λ own number node its among bytes stands damaged. one.node_or_damaged bytes (node_in node) offset stands damaged)
    not_damaged (disk.Slots dn) offset wrong =
        meta_is dn (λ own bytes. IsSomeAnd (see own.slots).told (λ slots. (this : Node) × StandsForNode bytes this × IsLowestPast this (length slots) offset)) ⊥ wrong
        (λ own number node its among bytes stands past. not_past own number node its offset bytes stands past)

    managers_below : (id : ℕ) → IsSomeAnd (see disks.manager).told (MakeARowOf id) → id < scm.made.next_id
    managers_below id there =
        both (see disks.manager).told (λ bytes. IsJournal bytes bodies) (MakeARowOf id) (id < scm.made.next_id) journal there
        (λ bytes is row.
        let same : row.loaded.all ≡ loaded.all = (one.manager bytes row.bodies bodies row.unseated unseated row.journal row.loaded is loaded).0 in
        let at : row_of loaded.all row.key ≡ Some row.row = subst (λ (l : List RowEntry). row_of l row.key ≡ Some row.row) same row.there in
        let least = loaded.greatest_id.none_above row.key row.row id at row.has in
        let below = fresh unseated.greatest_id (inl refl) in omega (arith, least, below))

    nodes_below : (id dn : ℕ) → MetaTells see disks dn (λ own bytes. (this : Node) × StandsForNode bytes this × HoldsId id this) → id < scm.made.next_id
    nodes_below id dn there =
        meta_is dn (λ own bytes. (this : Node) × StandsForNode bytes this × HoldsId id this) (id < scm.made.next_id) there
        (λ own number node its among bytes stands it.
        let same : it.0 ≡ node_in node = one.node bytes it.0 (node_in node) it.1 stands in
        fresh id (inr (among (HoldsId id) (subst (HoldsId id) same it.2))))

    all_below : (id : ℕ) → IsOnDisk see disks id → id < scm.made.next_id
    all_below id there = ⊎_elim (managers_below id) (λ at. nodes_below id at.0 at.1) there

    pub nothing_is_wrong : (fault : StoreFault) → IsWrong see disks fault → ⊥
    nothing_is_wrong (Disk name) wrong = wrong
    nothing_is_wrong (Damaged name offset) wrong = not_damaged name offset wrong
    nothing_is_wrong (Nodes recorded given) wrong =
        both (see disks.scm).told (λ bytes. StandsForScm (length disks.nodes.items) bytes scm.made) (IsOfNodes recorded) ⊥ from.stands wrong.0
        (λ bytes stands other. wrong.2 (one.scm_number (length disks.nodes.items) recorded bytes scm.made stands other ∙ sym wrong.1))
    nothing_is_wrong (Ids next id) wrong =
        both (see disks.scm).told (λ bytes. StandsForScm (length disks.nodes.items) bytes scm.made) (λ bytes. (made : Made) × StandsForScm (length disks.nodes.items) bytes made × (next ≡ made.next_id)) ⊥ from.stands wrong.0
        (λ bytes stands other.
        let same : other.0 ≡ scm.made = one.scm (length disks.nodes.items) bytes other.0 scm.made other.1 stands in
        let next_is : next ≡ scm.made.next_id = other.2 ∙ ap (λ (m : Made). m.next_id) same in
        let below = all_below id wrong.1 in
        let not_below = wrong.2 in omega (arith, below, not_below, next_is))
    nothing_is_wrong OutOfMemory wrong = wrong
