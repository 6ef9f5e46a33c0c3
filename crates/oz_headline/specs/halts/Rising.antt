-- That the count of faults of a node rose since its disks were loaded.
use Rattle.std.specs.Prelude.{◌≡◌, ℕ, List, Some, slice_get}
use Rattle.oz_core.specs.declared.event.Node.{Node}
use Rattle.oz_core.specs.declared.event.Node.TheVariants as node
use Rattle.oz_datanode.specs.Datanode.{State as Datanode, count_of}
use Rattle.oz_headline.specs.halts.Disks.{OtherNodes}
use Rattle.oz_world.specs.Faults.{Rose}

-- the count of a datanode, that of both its disks together
pub record DatanodeRose {D : Type 0} (faults : D → ℕ) (dn : ℕ) (all_loaded all_after : List (Datanode D)) : Type 0 where
  pub loaded : Datanode D
  pub after : Datanode D
  pub was_loaded : slice_get all_loaded dn ≡ Some loaded
  pub is_after : slice_get all_after dn ≡ Some after
  pub rose : Rose (count_of faults loaded) (count_of faults after)

-- the count of any node; the manager's disk had failed so often once it was loaded, and has failed so often now
abbrev pub ItsCountRose : {D : Type 0} → (D → ℕ) → ℕ → ℕ → OtherNodes D → OtherNodes D → Node → Type 0
ItsCountRose faults managers_loaded managers_after loaded after node.Manager = Rose managers_loaded managers_after
ItsCountRose faults managers_loaded managers_after loaded after node.Scm =
    Rose (faults loaded.scm.disk) (faults after.scm.disk)
ItsCountRose faults managers_loaded managers_after loaded after (node.Datanode dn) =
    DatanodeRose faults dn loaded.datanodes after.datanodes
