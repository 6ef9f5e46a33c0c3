-- What faults say, fault by fault.
use Rattle.std.proofs.Common.{◌≡◌, ◌≢◌, ◌⊎◌, inl, inr, ℕ, true, false, List, length, IfSome, refl, ◌∙◌}
use Rattle.oz_block.specs.Blocks.{StandsFor, IsDamagedDisk}
use Rattle.oz_datanode.specs.Datanode.{IsLowestPast}
use Rattle.oz_datanode.specs.declared.disks.NodeDisks.{NodeDisks}
use Rattle.oz_datanode.specs.declared.fault.NodeFault.{NodeFault}
use Rattle.oz_datanode.specs.declared.fault.NodeFault.TheVariants as node
use Rattle.oz_entries.specs.Node.{Node}
use Rattle.oz_scm.specs.Scm.{IsOfNodes, IsDamagedDisk as IsDamagedScm}
use Rattle.oz_scm.specs.declared.fault.ScmFault.{ScmFault}
use Rattle.oz_scm.specs.declared.fault.ScmFault.TheVariants as scm
use Rattle.oz_world.specs.Disk.{Seen}
use Rattle.oz_world.specs.Faults.{Rose}
use Rattle.oz_nodes_loaded.specs.Disks.{KeepsBytes}
use Rattle.oz_nodes_loaded.specs.Refused.{EndsAt, IsSo, ScmCameBack}
use Rattle.oz_nodes_loaded.specs.Steps.{Says, ScmSays, named, scm_fault_of}

module _ {D : Type 0} (see : D → Seen) (own left : NodeDisks D) where
  pub says : (fault : NodeFault)
      → ((offset : ℕ) → fault ≡ node.Damaged false offset → IfSome (see own.meta).told (λ bytes. IsDamagedDisk bytes offset))
      → ((offset : ℕ) → fault ≡ node.Damaged true offset → IfSome (see own.meta).told (λ bytes. IfSome (see own.slots).told (λ slots. (kept : Node) × StandsFor bytes kept × IsLowestPast kept (length slots) offset)))
      → (fault ≡ node.Disk true → IfSome (see own.meta).told (λ bytes. (kept : Node) × StandsFor bytes kept))
      → (fault ≡ node.Disk false → Rose (see own.meta).faults (see left.meta).faults)
      → (fault ≡ node.Disk true → Rose (see own.slots).faults (see left.slots).faults)
      → ((offset : ℕ) → (fault ≡ node.Disk false) ⊎ (fault ≡ node.Damaged false offset) → left.slots ≡ own.slots)
      → Says see fault own left
  says (node.Disk false) journal past stands meta slots same = (meta refl, same 0 (inl refl))
  says (node.Disk true) journal past stands meta slots same = (stands refl, slots refl)
  says (node.Damaged false offset) journal past stands meta slots same = (journal offset refl, same offset (inr refl))
  says (node.Damaged true offset) journal past stands meta slots same = past offset refl
  says node.OutOfMemory journal past stands meta slots same = tt

pub scm_says : (count : ℕ) (fault : ScmFault) (before after : Seen)
    → ((offset : ℕ) → fault ≡ scm.Damaged offset → IfSome before.told (λ bytes. IsDamagedScm bytes offset))
    → ((recorded given : ℕ) → fault ≡ scm.Nodes recorded given → (given ≡ count) × (recorded ≢ count) × IfSome before.told (IsOfNodes recorded))
    → (fault ≡ scm.Disk → Rose before.faults after.faults)
    → (fault ≢ scm.Disk → KeepsBytes before.told after.told) → ScmSays count fault before after
scm_says count scm.Disk before after damaged other disk contents = disk refl
scm_says count (scm.Damaged offset) before after damaged other disk contents = (damaged offset refl, contents (λ e. cc e))
scm_says count (scm.Nodes recorded given) before after damaged other disk contents =
    let so = other recorded given refl in (so.0, (λ e. so.1 (e ∙ so.0)), so.2, contents (λ e. cc e))
scm_says count scm.OutOfMemory before after damaged other disk contents = tt

module _ {D : Type 0} (see : D → Seen) (greatest : ℕ) (disk : D) (nodes : List (NodeDisks D)) (disk_left : D) where
  -- the storage container manager's disk is at fault
  pub scm_is_so : (fault : ScmFault) → ScmSays (length nodes) fault (see disk) (see disk_left)
      → IsSo see greatest disk nodes disk_left nodes (scm_fault_of fault)
  scm_is_so scm.Disk said = (said, refl)
  scm_is_so (scm.Damaged offset) said = (said.0, said.1, refl)
  scm_is_so (scm.Nodes recorded given) said = (said.0, said.1, said.2, said.3, refl)
  scm_is_so scm.OutOfMemory said = tt

  -- a datanode is
  pub node_is_so : (nodes_left : List (NodeDisks D)) (dn : ℕ) (fault : NodeFault) → ScmCameBack see (length nodes) disk disk_left
      → EndsAt see dn (Says see fault) nodes nodes_left → IsSo see greatest disk nodes disk_left nodes_left (named dn fault)
  node_is_so nodes_left dn (node.Disk false) back ends = (back, ends)
  node_is_so nodes_left dn (node.Disk true) back ends = (back, ends)
  node_is_so nodes_left dn (node.Damaged false offset) back ends = (back, ends)
  node_is_so nodes_left dn (node.Damaged true offset) back ends = (back, ends)
  node_is_so nodes_left dn node.OutOfMemory back ends = tt
