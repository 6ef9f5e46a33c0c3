-- The disks of a run: all but the manager's, each with its name, as they were and as they are; and how often they failed.
use Rattle.std.specs.Prelude.{ℕ, ◌+◌, List, [], ◌∷◌, Option, None, Some, slice_get}
use Rattle.oz_core.specs.declared.event.Node.{Node}
use Rattle.oz_core.specs.declared.event.Node.TheVariants as node
use Rattle.oz_datanode.specs.Datanode.{State as Datanode, count_of}
use Rattle.oz_datanode.specs.declared.disks.NodeDisks.{NodeDisks}
use Rattle.oz_running.specs.declared.disk_run.disks.Disks.{Disks}
use Rattle.oz_headline.specs.halts.Disks.{OtherDisks, OtherNodes}
use Rattle.oz_headline.specs.disk_name.DiskName.{DiskName}
use Rattle.oz_headline.specs.disk_name.DiskName.TheVariants.{Scm, Meta, Slots}
use Rattle.oz_world.specs.Disk.{Seen}

-- the disks of the storage container manager and of the datanodes
abbrev pub others_of : {D : Type 0} → Disks D → OtherDisks D
others_of disks = record { scm = disks.scm; datanodes = disks.nodes.items }

-- those of datanodes, from this number on
abbrev pub disks_of_nodes : {D : Type 0} → ℕ → List (NodeDisks D) → List (NodeDisks D) → List (DiskName × (D × D))
disks_of_nodes number [] later = []
disks_of_nodes number (node ∷ nodes) [] = []
disks_of_nodes number (node ∷ nodes) (left ∷ later) =
    (Meta number, (node.meta, left.meta)) ∷ (Slots number, (node.slots, left.slots))
    ∷ disks_of_nodes (number + 1) nodes later

-- all but the manager's
abbrev pub other_disks : {D : Type 0} → Disks D → Disks D → List (DiskName × (D × D))
other_disks before after = (Scm, (before.scm, after.scm)) ∷ disks_of_nodes 0 before.nodes.items after.nodes.items

-- how often the disks of a datanode failed, if it is there
abbrev pub count_in : {D : Type 0} → (D → ℕ) → Option (Datanode D) → ℕ
count_in faults None = 0
count_in faults (Some datanode) = count_of faults datanode

-- how often the disks of a node had failed once they were loaded, that of the manager so often, and those of a datanode
-- together
abbrev pub counts_loaded : {D : Type 0} → (D → Seen) → ℕ → OtherNodes D → Node → ℕ
counts_loaded see managers nodes node.Manager = managers
counts_loaded see managers nodes node.Scm = (see nodes.scm.disk).faults
counts_loaded see managers nodes (node.Datanode dn) =
    count_in (λ disk. (see disk).faults) (slice_get nodes.datanodes dn)
