-- What is seen of the disks of all nodes.
use Rattle.std.specs.Prelude.{◌≡◌, ℕ, ◌+◌, Bool, ◌||◌, List, [], ◌∷◌, length}
use Rattle.std.specs.List.{list_any}
use Rattle.oz_datanode.specs.Datanode.{State as Datanode, is_halted, meta_of, slots_of}
use Rattle.oz_datanode.specs.declared.disks.NodeDisks.{NodeDisks}
use Rattle.oz_headline.specs.Disks.{RunDisk}
use Rattle.oz_nodes_loaded.specs.declared.disk_name.DiskName.{DiskName}
use Rattle.oz_nodes_loaded.specs.declared.disk_name.DiskName.TheVariants as disk
use Rattle.oz_scm.specs.Scm.{State as Scm}
use Rattle.oz_world.specs.Disk.{Seen}

-- a disk as it was before the run, once it was loaded, and at the end
abbrev pub run_disk : DiskName → Seen → Seen → Bool → Seen → RunDisk
run_disk name before loaded stopped after = record {
  name = name;
  before = before;
  faults = loaded.faults;
  first = loaded.clock;
  stopped = stopped;
  after = after;
}

-- the disks of the storage container manager and of the datanodes, in the order of their numbers
pub record OtherDisks (D : Type 0) : Type 0 where
  pub scm : D
  pub datanodes : List (NodeDisks D)

-- these nodes themselves
pub record OtherNodes (D : Type 0) : Type 0 where
  pub scm : Scm D
  pub datanodes : List (Datanode D)

-- each datanode had its disks before the run, and was loaded
pub record AreAsMany {D : Type 0} (before : OtherDisks D) (loaded after : OtherNodes D) : Type 0 where
  pub before_count : length before.datanodes ≡ length after.datanodes
  pub loaded_count : length loaded.datanodes ≡ length after.datanodes

-- whether a node has halted: the manager, or one of the others
abbrev pub some_halted : {D : Type 0} → Bool → OtherNodes D → Bool
some_halted stopped nodes = stopped || (nodes.scm.stopped || list_any is_halted nodes.datanodes)

module _ {D : Type 0} (see : D → Seen) where
  -- the disks of each datanode, from this number on
  abbrev pub datanode_disks : ℕ → List (NodeDisks D) → List (Datanode D) → List (Datanode D) → List RunDisk
  datanode_disks number (before ∷ all_before) (loaded ∷ all_loaded) (after ∷ all_after) =
      run_disk (disk.Meta number) (see before.meta) (see (meta_of loaded)) after.blocks.stopped (see (meta_of after))
      ∷ run_disk (disk.Slots number) (see before.slots) (see (slots_of loaded)) after.shelf.failed
      (see (slots_of after))
      ∷ datanode_disks (number + 1) all_before all_loaded all_after
  datanode_disks number all_before all_loaded all_after = []

  -- the disks of all nodes: the manager's, and those of the others as they were before the run, as these were loaded
  -- from them, and as these are at the end
  abbrev pub all_disks : RunDisk → OtherDisks D → OtherNodes D → OtherNodes D → List RunDisk
  all_disks manager before loaded after =
      manager
      ∷ run_disk disk.Scm (see before.scm) (see loaded.scm.disk) after.scm.stopped (see after.scm.disk)
      ∷ datanode_disks 0 before.datanodes loaded.datanodes after.datanodes
