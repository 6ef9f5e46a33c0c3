use Rattle.oz_node_admin.proofs.Emptying.{runs_so}
use Rattle.oz_node_admin.proofs.wiped.runs.Goals as goal

pub returns : goal.returns
returns g c = runs_so g.D.Disk.faults c.args.node.now c.running.result c.running.ensures
