use Rattle.oz_replicas.proofs.Putting.{put_goes, put_own, put_idle}
use Rattle.oz_replicas.proofs.filling.put.Goals as goal

pub returns-clause-goes : goal.returns-clause-goes
returns-clause-goes g c = put_goes g.D.Disk.told g.D.Disk.clock g.D.Disk.image g.D.Disk.faults c.args.block c.args.bytes.now c.args.node.now c.put.new.self c.put.result c.requires.opened c.requires.made c.requires.wanted (rw c.len.ensures at c.put.ensures.ends) (rw c.len.ensures at c.put.ensures.pairs) c.put.ensures.goes_on

pub returns-clause-own : goal.returns-clause-own
returns-clause-own g c = put_own g.D.Disk.told g.D.Disk.clock g.D.Disk.image g.D.Disk.faults c.args.block c.args.bytes.now c.args.node.now c.put.new.self c.put.result (rw c.len.ensures at c.put.ensures.ends) c.requires.own

pub returns-clause-idle : goal.returns-clause-idle
returns-clause-idle g c = put_idle g.D.Disk.told g.D.Disk.clock g.D.Disk.image g.D.Disk.faults c.args.block c.args.bytes.now c.args.node.now c.put.new.self c.put.result (rw c.len.ensures at c.put.ensures.ends) c.requires.own
