-- Why disks weren't loaded, and what comes back.
use Rattle.std.specs.Prelude.{◌≡◌, ◌≢◌, ℕ, ◌≤◌, true, List, ◌∷◌, ◌++◌, length, map, IfSome}
use Rattle.oz_block.specs.Blocks.{StandsFor, IsDamagedDisk}
use Rattle.oz_datanode.specs.declared.disks.NodeDisks.{NodeDisks}
use Rattle.oz_datanode.specs.Datanode.{State as Datanode, AreDamaged, node_in}
use Rattle.oz_entries.specs.Node.{Node}
use Rattle.oz_nodes_loaded.specs.declared.disk_name.DiskName.TheVariants as disk
use Rattle.oz_scm.specs.Scm.{State as Scm, IsOfNodes, IsDamagedDisk as IsDamagedScm}
use Rattle.oz_world.specs.Disk.{Seen}
use Rattle.oz_world.specs.Faults.{Rose}
use Rattle.oz_nodes_loaded.specs.declared.fault.StoreFault.{StoreFault}
use Rattle.oz_nodes_loaded.specs.declared.fault.StoreFault.TheVariants.{Disk, Damaged, Nodes, Ids, OutOfMemory}
use Rattle.oz_nodes_loaded.specs.Disks.{KeepsBytes}
use Rattle.oz_nodes_loaded.specs.Ids.{IsGreatestSeen}
use Rattle.oz_nodes_loaded.specs.Loads.{IsScmFrom, AreNodesFrom, disks_in}

module _ {D : Type 0} (see : D → Seen) where
  -- The storage container manager was loaded, and its disk came back as that left it.
  pub record ScmCameBack (given : ℕ) (before after : D) : Type 0 where
    pub scm : Scm D
    pub loaded : IsScmFrom see given before scm
    pub disk : after ≡ scm.disk

  -- The datanode of this number wasn't loaded, for this reason, which is told of its disks as they were and as they came
  -- back. Those before it were loaded, and their disks came back as that left them. Those behind it came back as they were.
  pub record EndsAt (dn : ℕ) (Why : NodeDisks D → NodeDisks D → Type 0) (before after : List (NodeDisks D)) : Type 0 where
    pub first : List (NodeDisks D)
    pub loaded : List (Datanode D)
    pub own : NodeDisks D
    pub left : NodeDisks D
    pub behind : List (NodeDisks D)
    pub number : length first ≡ dn
    pub are : AreNodesFrom see 0 first loaded
    pub why : Why own left
    pub were : before ≡ first ++ own ∷ behind
    pub came_back : after ≡ map disks_in loaded ++ left ∷ behind

  -- The reasons. The slots are as they were where the journal is at fault, and where they are it isn't damaged.
  abbrev pub MetaFailed : NodeDisks D → NodeDisks D → Type 0
  MetaFailed own left = Rose (see own.meta).faults (see left.meta).faults × (left.slots ≡ own.slots)

  abbrev pub MetaIsDamaged : ℕ → NodeDisks D → NodeDisks D → Type 0
  MetaIsDamaged offset own left =
      IfSome (see own.meta).told (λ bytes. IsDamagedDisk bytes offset) × (left.slots ≡ own.slots)

  abbrev pub SlotsFailed : NodeDisks D → NodeDisks D → Type 0
  SlotsFailed own left =
      IfSome (see own.meta).told (λ bytes. (node : Node) × StandsFor bytes node)
      × Rose (see own.slots).faults (see left.slots).faults

  abbrev pub SlotsAreDamaged : ℕ → NodeDisks D → NodeDisks D → Type 0
  SlotsAreDamaged offset own left =
      IfSome (see own.meta).told (λ journal. IfSome (see own.slots).told (λ slots. AreDamaged true journal slots offset))

  -- All were loaded. The next id is this one, and the greatest that the manager or a datanode has isn't below it.
  pub record IdsDisagree (greatest next id : ℕ) (scm : D) (nodes : List (NodeDisks D)) (scm_left : D)
      (nodes_left : List (NodeDisks D)) : Type 0 where
    pub scm_came_back : ScmCameBack (length nodes) scm scm_left
    pub loaded : List (Datanode D)
    pub are : AreNodesFrom see 0 nodes loaded
    pub came_back : nodes_left ≡ map disks_in loaded
    pub is_next : next ≡ scm_came_back.scm.made.next_id
    pub is_greatest : IsGreatestSeen greatest (map node_in loaded) id
    pub not_below : next ≤ id

  -- What is so where this fault comes, of the disks as they were and as they came back. Those of the datanodes weren't
  -- touched where the storage container manager's is at fault.
  abbrev pub IsSo : ℕ → D → List (NodeDisks D) → D → List (NodeDisks D) → StoreFault → Type 0
  IsSo greatest scm nodes scm_left nodes_left (Disk disk.Manager) = ⊥
  IsSo greatest scm nodes scm_left nodes_left (Disk disk.Scm) =
      Rose (see scm).faults (see scm_left).faults × (nodes_left ≡ nodes)
  IsSo greatest scm nodes scm_left nodes_left (Disk (disk.Meta dn)) =
      ScmCameBack (length nodes) scm scm_left × EndsAt dn MetaFailed nodes nodes_left
  IsSo greatest scm nodes scm_left nodes_left (Disk (disk.Slots dn)) =
      ScmCameBack (length nodes) scm scm_left × EndsAt dn SlotsFailed nodes nodes_left
  IsSo greatest scm nodes scm_left nodes_left (Damaged disk.Manager offset) = ⊥
  IsSo greatest scm nodes scm_left nodes_left (Damaged disk.Scm offset) =
      IfSome (see scm).told (λ bytes. IsDamagedScm bytes offset) × KeepsBytes (see scm).told (see scm_left).told
      × (nodes_left ≡ nodes)
  IsSo greatest scm nodes scm_left nodes_left (Damaged (disk.Meta dn) offset) =
      ScmCameBack (length nodes) scm scm_left × EndsAt dn (MetaIsDamaged offset) nodes nodes_left
  IsSo greatest scm nodes scm_left nodes_left (Damaged (disk.Slots dn) offset) =
      ScmCameBack (length nodes) scm scm_left × EndsAt dn (SlotsAreDamaged offset) nodes nodes_left
  IsSo greatest scm nodes scm_left nodes_left (Nodes recorded given) =
      (given ≡ length nodes) × (recorded ≢ given) × IfSome (see scm).told (IsOfNodes recorded)
      × KeepsBytes (see scm).told (see scm_left).told × (nodes_left ≡ nodes)
  IsSo greatest scm nodes scm_left nodes_left (Ids next id) = IdsDisagree greatest next id scm nodes scm_left nodes_left
  IsSo greatest scm nodes scm_left nodes_left OutOfMemory = Unit {0}
