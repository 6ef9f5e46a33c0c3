use Rattle.std.proofs.Common.{◌≡◌, false, drop}
use Rattle.oz_world.specs.Disk.{seen}
use Rattle.oz_datanode.specs.Reading.{OnlyReads}
use Rattle.oz_datanode.proofs.Copied.{CopiedSoFar}
use Rattle.oz_datanode.proofs.unverified.copy_chunks.Given as goal

abbrev pub invariant-loop-chunk : goal.invariant-loop-chunk
invariant-loop-chunk g l = record {
  running : l.shelf.failed ≡ false;
  reads : OnlyReads l.fn.shelf l.shelf
      (seen (g.D.Disk.told l.fn.shelf.slots.disk) (g.D.Disk.clock l.fn.shelf.slots.disk) (g.D.Disk.image l.fn.shelf.slots.disk) (g.D.Disk.faults l.fn.shelf.slots.disk))
      (seen (g.D.Disk.told l.shelf.slots.disk) (g.D.Disk.clock l.shelf.slots.disk) (g.D.Disk.image l.shelf.slots.disk) (g.D.Disk.faults l.shelf.slots.disk));
  so_far : CopiedSoFar (g.D.Disk.told l.fn.shelf.slots.disk) l.size l.left l.chunks (drop l.chunk-index l.chunks) l.copied.items;
}
