-- Which nodes halted, and why.
use Rattle.std.specs.Prelude.{◌≡◌, ◌≢◌, true, List, None, Some, if◌then◌else◌}
use Rattle.oz_core.specs.declared.event.Event.{Event}
use Rattle.oz_core.specs.declared.event.Node.{Node}
use Rattle.oz_core.specs.Manager.{halt_of}
use Rattle.oz_headline.specs.declared.status.Status.{Status}
use Rattle.oz_headline.specs.declared.status.Status.TheVariants.{Done, Disk}
use Rattle.oz_headline.specs.Disks.{RunDisk, has_stopped, faults_loaded, faults_after}
use Rattle.oz_world.specs.Faults.{Rose}

-- A node has a Halt exactly where a call on one of its disks failed. The Halt has the count of faults at the end,
-- which rose since the disks were loaded.
pub record HaltIsNamed (disks : List RunDisk) (story : List Event) (node : Node) : Type 0 where
  pub halt : halt_of node story ≡ (if has_stopped node disks then Some (faults_after node disks) else None)
  pub rose : has_stopped node disks ≡ true → Rose (faults_loaded node disks) (faults_after node disks)

-- So it is of each node: one that has no disk here has no Halt.
abbrev pub HaltsAreNamed : List RunDisk → List Event → Type 0
HaltsAreNamed disks story = (node : Node) → HaltIsNamed disks story node

-- With Done no node has halted, and with Disk one has.
abbrev pub StatusNamesHalts : Status → List Event → Type 0
StatusNamesHalts Done story = (node : Node) → halt_of node story ≡ None
StatusNamesHalts Disk story = (node : Node) × (halt_of node story ≢ None)
StatusNamesHalts _ story = Unit {0}
