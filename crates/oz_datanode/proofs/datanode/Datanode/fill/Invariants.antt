use Rattle.oz_datanode.specs.Steps.{FilledTo}
use Rattle.oz_datanode.proofs.datanode.Datanode.fill.Given as goal

abbrev pub invariant-loop-place : goal.invariant-loop-place
invariant-loop-place g l = FilledTo g.D.Disk.told g.D.Disk.clock g.D.Disk.image g.D.Disk.faults l.block l.bytes l.place l.fn.self l.self
