-- For private calls: how faults are named, and where the loading of the datanodes ends.
use Rattle.std.specs.Prelude.{◌≡◌, ◌≢◌, ℕ, ◌≤◌, Bool, true, false, List, map, IfSome}
use Rattle.oz_datanode.specs.Datanode.{State as Datanode, node_in}
use Rattle.oz_datanode.specs.declared.disks.NodeDisks.{NodeDisks}
use Rattle.oz_datanode.specs.declared.fault.NodeFault.{NodeFault}
use Rattle.oz_datanode.specs.declared.fault.NodeFault.TheVariants as node
use Rattle.oz_nodes_loaded.specs.declared.disk_name.DiskName.{DiskName}
use Rattle.oz_nodes_loaded.specs.declared.disk_name.DiskName.TheVariants as disk
use Rattle.oz_scm.specs.declared.fault.ScmFault.{ScmFault}
use Rattle.oz_scm.specs.declared.fault.ScmFault.TheVariants as scm
use Rattle.oz_scm.specs.Scm.{State as Scm, IsOfNodes, IsDamagedDisk}
use Rattle.oz_world.specs.Disk.{Seen}
use Rattle.oz_world.specs.Faults.{Rose}
use Rattle.oz_nodes_loaded.specs.Disks.{KeepsBytes}
use Rattle.oz_nodes_loaded.specs.declared.fault.StoreFault.{StoreFault}
use Rattle.oz_nodes_loaded.specs.declared.fault.StoreFault.TheVariants as all
use Rattle.oz_nodes_loaded.specs.Ids.{AreBelow, IsGreatestSeen}
use Rattle.oz_nodes_loaded.specs.Loads.{disks_in}
use Rattle.oz_nodes_loaded.specs.Refused.{EndsAt, MetaFailed, MetaIsDamaged, SlotsFailed, SlotsAreDamaged}

abbrev pub scm_fault_of : ScmFault → StoreFault
scm_fault_of scm.Disk = all.Disk disk.Scm
scm_fault_of (scm.Damaged offset) = all.Damaged disk.Scm offset
scm_fault_of (scm.Nodes recorded given) = all.Nodes recorded given
scm_fault_of scm.OutOfMemory = all.OutOfMemory

abbrev pub name_of : ℕ → Bool → DiskName
name_of dn false = disk.Meta dn
name_of dn true = disk.Slots dn

-- a fault of the datanode of this number
abbrev pub named : ℕ → NodeFault → StoreFault
named dn (node.Disk slots) = all.Disk (name_of dn slots)
named dn (node.Damaged slots offset) = all.Damaged (name_of dn slots) offset
named dn node.OutOfMemory = all.OutOfMemory

-- what a fault of the storage container manager's disk says of it
abbrev pub ScmSays : ℕ → ScmFault → Seen → Seen → Type 0
ScmSays count scm.Disk before after = Rose before.faults after.faults
ScmSays count (scm.Damaged offset) before after =
    IfSome before.told (λ bytes. IsDamagedDisk bytes offset) × KeepsBytes before.told after.told
ScmSays count (scm.Nodes recorded given) before after =
    (given ≡ count) × (recorded ≢ given) × IfSome before.told (IsOfNodes recorded) × KeepsBytes before.told after.told
ScmSays count scm.OutOfMemory before after = Unit {0}

pub record IsOfScm (count : ℕ) (fault : StoreFault) (before after : Seen) : Type 0 where
  pub fault_of : ScmFault
  pub is : fault ≡ scm_fault_of fault_of
  pub says : ScmSays count fault_of before after

module _ {D : Type 0} (see : D → Seen) where
  -- what a fault of a datanode says of its disks
  abbrev pub Says : NodeFault → NodeDisks D → NodeDisks D → Type 0
  Says (node.Disk false) own left = MetaFailed see own left
  Says (node.Disk true) own left = SlotsFailed see own left
  Says (node.Damaged false offset) own left = MetaIsDamaged see offset own left
  Says (node.Damaged true offset) own left = SlotsAreDamaged see offset own left
  Says node.OutOfMemory own left = Unit {0}

  pub record IsOfNode (dn : ℕ) (fault : StoreFault) (own left : NodeDisks D) : Type 0 where
    pub fault_of : NodeFault
    pub is : fault ≡ named dn fault_of
    pub says : Says fault_of own left

  -- a datanode wasn't loaded
  pub record EndsWith (fault : StoreFault) (before after : List (NodeDisks D)) : Type 0 where
    pub dn : ℕ
    pub fault_of : NodeFault
    pub is : fault ≡ named dn fault_of
    pub ends : EndsAt see dn (Says fault_of) before after

module _ {D : Type 0} (greatest : ℕ) (scm : Scm D) (nodes : List (Datanode D)) where
  -- the ids are below the next one
  pub record Agrees (scm_loaded : Scm D) (nodes_loaded : List (Datanode D)) : Type 0 where
    pub scm_same : scm_loaded ≡ scm
    pub nodes_same : nodes_loaded ≡ nodes
    pub below : AreBelow greatest (map node_in nodes) scm.made.next_id

  -- one isn't, and the disks come back
  pub record Disagrees (scm_left : D) (nodes_left : List (NodeDisks D)) (fault : StoreFault) : Type 0 where
    pub id : ℕ
    pub is : fault ≡ all.Ids scm.made.next_id id
    pub is_greatest : IsGreatestSeen greatest (map node_in nodes) id
    pub not_below : scm.made.next_id ≤ id
    pub scm_came_back : scm_left ≡ scm.disk
    pub nodes_came_back : nodes_left ≡ map disks_in nodes
