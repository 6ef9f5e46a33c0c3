-- What a read gives of a disk behind a fuse is what a stop may leave.
use Rattle.std.proofs.Common.{◌≡◌, ℕ, min, List, Some, subst, arith}
use Rattle.oz_fused.specs.declared.fused_disk.FusedDisk.{FusedDisk}
use Rattle.oz_fused.specs.FusedDisk.{inner_of, fused_bytes, fused_clock, fused_images}
use Rattle.oz_world.specs.laws.Present.{disk_present}
use Rattle.oz_world.specs.MemoryDisk.{disk_clock, disk_images}

pub fused_present : (disk : FusedDisk) (bytes : List ℕ) → Some (fused_bytes disk) ≡ Some bytes
    → fused_images disk (fused_clock disk) bytes
fused_present disk bytes is =
    let clock : disk_clock (inner_of disk) ≡ min (fused_clock disk) (disk_clock (inner_of disk)) = omega arith in
    subst (λ (t : ℕ). disk_images (inner_of disk) t bytes) clock (disk_present (inner_of disk) bytes is)
