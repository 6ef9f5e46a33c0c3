-- What a disk behind a fuse stands for.
use Rattle.std.specs.Prelude.{◌≡◌, ℕ, ◌+◌, min, Bool, true, false, List, if◌then◌else◌}
use Rattle.oz_fused.specs.declared.fused_disk.FusedDisk.{FusedDisk}
use Rattle.oz_world.specs.declared.memory_disk.MemoryDisk.{MemoryDisk}
use Rattle.oz_world.specs.Calls.{raised, Counts}
use Rattle.oz_world.specs.Disk.{Images}
use Rattle.oz_world.specs.MemoryDisk.{disk_bytes, disk_clock, disk_images, disk_calls}

-- the disk behind the fuse
abbrev pub inner_of : FusedDisk → MemoryDisk
inner_of disk = disk.inner

-- the fuse was found blown, so that no call passes any more
abbrev pub is_blown : FusedDisk → Bool
is_blown disk = disk.blown

-- the moments that passed since the fuse blew
abbrev pub late_of : FusedDisk → ℕ
late_of disk = disk.late

-- how often it has failed
abbrev pub fused_faults : FusedDisk → ℕ
fused_faults disk = disk.faults

-- what a read gives
abbrev pub fused_bytes : FusedDisk → List ℕ
fused_bytes disk = disk_bytes (inner_of disk)

-- the present moment
abbrev pub fused_clock : FusedDisk → ℕ
fused_clock disk = disk_clock (inner_of disk) + late_of disk

-- What a stop at each moment may leave: what a stop of the disk behind the fuse may, and at each moment since the fuse
-- blew what it might have left then.
abbrev pub fused_images : FusedDisk → Images
fused_images disk moment = disk_images (inner_of disk) (min moment (disk_clock (inner_of disk)))

-- What a call has to do with the fuse. Where the disk is blown, it stays so, the call failed, and the disk behind the fuse
-- wasn't called. Where it isn't, that disk was called once, and the call failed just where that one did.
pub record IsFused (old new : FusedDisk) (failed : Bool) : Type 0 where
  pub stays : is_blown old ≡ true → is_blown new ≡ true
  pub fails : is_blown new ≡ true → failed ≡ true
  pub spared : is_blown new ≡ true → inner_of new ≡ inner_of old
  pub passed : is_blown new ≡ false → Counts (disk_calls (inner_of old)) (disk_calls (inner_of new)) failed
  pub counted : fused_faults new ≡ (if failed then raised (fused_faults old) else fused_faults old)
