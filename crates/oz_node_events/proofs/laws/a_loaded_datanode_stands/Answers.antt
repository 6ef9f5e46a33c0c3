use Rattle.oz_node_events.proofs.Own.{loaded_stands}
use Rattle.oz_node_events.proofs.laws.a_loaded_datanode_stands.Goals as goal

pub returns : goal.returns
returns g c node runs as_opened journal no_fewer = loaded_stands g.D.Disk.told g.D.Disk.clock g.D.Disk.image g.D.Disk.faults g.O.Opened.coherent g.O.Opened.opening g.O.Opened.bytes g.O.Opened.script g.O.Opened.faults node runs as_opened journal no_fewer
