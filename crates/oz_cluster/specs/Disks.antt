-- Which disks of a run counted a fault.
use Rattle.std.specs.Prelude.{◌⊎◌, ℕ, ◌+◌, ◌-◌, ◌^◌, ◌≤◌, ◌∷◌, Any}
use Rattle.oz_datanode.specs.declared.disks.NodeDisks.{NodeDisks}
use Rattle.oz_running.specs.declared.disk_run.disks.Disks.{Disks}
use Rattle.oz_running.specs.disk_run.Disks.{other_disks}
use Rattle.oz_running.specs.disk_name.DiskName.{DiskName}
use Rattle.oz_running.specs.disk_name.DiskName.TheVariants.{Manager}
use Rattle.oz_world.specs.Disk.{Seen}
use Rattle.oz_world.specs.Faults.{Rose}

module _ {D : Type 0} (see : D → Seen) where
  -- the count of faults of a datanode, that of both its disks together, is at its last value, and so is taken as risen
  abbrev pub IsAtLast : NodeDisks D → Type 0
  IsAtLast own = 2 ^ 64 - 1 ≤ (see own.meta).faults + (see own.slots).faults

  -- One of all disks counted a fault between the beginning and the end. Where a datanode's count is at its last value it
  -- doesn't tell whether one of its disks did.
  abbrev pub ADiskRose : Disks D → Disks D → Type 0
  ADiskRose before after =
      Any (λ (disk : DiskName × (D × D)). Rose (see disk.1.0).faults (see disk.1.1).faults)
      ((Manager, (before.manager, after.manager)) ∷ other_disks before after)
      ⊎ Any IsAtLast after.nodes.items
