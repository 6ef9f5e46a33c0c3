use Rattle.oz_replicas.proofs.Putting.{after_filling}
use Rattle.oz_replicas.proofs.Staying.{has_before}
use Rattle.oz_replicas.proofs.filling.fill_and_put.Goals as goal

pub put-requires-clause-wanted : goal.put-requires-clause-wanted
put-requires-clause-wanted g c = λ has. c.requires.wanted (has_before g.D.Disk.told g.D.Disk.clock g.D.Disk.image g.D.Disk.faults c.args.block c.args.node.now c.fill.new.node c.in_ok-fill.ensures.goes.0 has)

pub returns-clause-goes : goal.returns-clause-goes
returns-clause-goes g c = after_filling g.D.Disk.told g.D.Disk.clock g.D.Disk.image g.D.Disk.faults c.args.block c.args.bytes.now c.args.node.now c.fill.new.node c.put.new.node c.put.result c.in_ok-fill.ensures.goes.0 c.put.ensures.goes
