-- Disks of a store to which nothing was written yet.
use Rattle.std.specs.Prelude.{◌≤◌, length, All, IsSome, IsSomeAnd}
use Rattle.oz_running.specs.declared.disk_run.disks.Disks.{Disks}
use Rattle.oz_world.specs.Disk.{Seen}

-- what is seen of a disk is at most one byte
abbrev pub IsBare : Seen → Type 0
IsBare disk = IsSomeAnd disk.told (λ bytes. length bytes ≤ 1)

-- Each disk with a journal has at most one byte, and the slots of each datanode tell theirs.
pub record AreUnwritten {D : Type 0} (see : D → Seen) (disks : Disks D) : Type 0 where
  pub manager : IsBare (see disks.manager)
  pub scm : IsBare (see disks.scm)
  pub nodes : All (λ own. IsBare (see own.meta) × IsSome (see own.slots).told) disks.nodes.items
