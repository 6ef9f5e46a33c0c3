-- What is seen of the disks of a run.
use Rattle.std.specs.Prelude.{ℕ, Bool, false, ◌==◌, ◌||◌, ◌&&◌, true, List, [], ◌∷◌, if◌then◌else◌, min, ◌+◌, ◌-◌, ◌^◌}
use Rattle.oz_core.specs.declared.event.Node.{Node}
use Rattle.oz_core.specs.declared.event.Node.TheVariants as node
use Rattle.oz_nodes_loaded.specs.declared.disk_name.DiskName.{DiskName}
use Rattle.oz_nodes_loaded.specs.declared.disk_name.DiskName.TheVariants as disk
use Rattle.oz_world.specs.Disk.{Seen}

-- What is seen of one disk as the run begins and at its end; how often it had failed once it was loaded; and whether a
-- call on it has failed since. From the first moment on it is said what a stop leaves.
pub record RunDisk : Type 1 where
  pub name : DiskName
  pub before : Seen
  pub faults : ℕ
  pub first : ℕ
  pub stopped : Bool
  pub after : Seen

-- so it is of each of these disks
abbrev pub OfEach : (RunDisk → Type 0) → List RunDisk → Type 0
OfEach Holds [] = Unit {0}
OfEach Holds (disk ∷ disks) = Holds disk × OfEach Holds disks

-- the disk is one of this node's
abbrev pub is_of : Node → DiskName → Bool
is_of node.Manager disk.Manager = true
is_of node.Scm disk.Scm = true
is_of (node.Datanode number) (disk.Meta other) = other == number
is_of (node.Datanode number) (disk.Slots other) = other == number
is_of _ _ = false

-- whether a call on one of a node's disks has failed
abbrev pub has_stopped : Node → List RunDisk → Bool
has_stopped node [] = false
has_stopped node (disk ∷ disks) = (is_of node disk.name && disk.stopped) || has_stopped node disks

-- a number of each of a node's disks
abbrev pub of_node : (RunDisk → ℕ) → Node → List RunDisk → List ℕ
of_node count node [] = []
of_node count node (disk ∷ disks) =
    if is_of node disk.name then count disk ∷ of_node count node disks else of_node count node disks

-- counts of faults taken together: the sum, at most the last value of a count
abbrev pub together : List ℕ → ℕ
together [] = 0
together (count ∷ []) = count
together (count ∷ counts) = min (count + together counts) (2 ^ 64 - 1)

-- how often a node's disks had failed once they were loaded, and at the end
abbrev pub faults_loaded : Node → List RunDisk → ℕ
faults_loaded node disks = together (of_node (λ disk. disk.faults) node disks)

abbrev pub faults_after : Node → List RunDisk → ℕ
faults_after node disks = together (of_node (λ disk. disk.after.faults) node disks)

-- the manager's disk
abbrev pub manager_disk : ℕ → ℕ → Bool → Seen → Seen → RunDisk
manager_disk faults first stopped before after = record {
  name = disk.Manager;
  before = before;
  faults = faults;
  first = first;
  stopped = stopped;
  after = after;
}
