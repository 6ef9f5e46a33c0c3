use Rattle.oz_replicas.specs.Nodes.{WrittenTo}
use Rattle.oz_replicas.proofs.filling.fill.Given as goal

abbrev pub invariant-loop-place : goal.invariant-loop-place
invariant-loop-place g l = WrittenTo g.D.Disk.told g.D.Disk.clock g.D.Disk.image g.D.Disk.faults l.block l.bytes l.place l.fn.node l.node
