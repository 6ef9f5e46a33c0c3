use Rattle.oz_node_events.proofs.Noted.{ready_stands}
use Rattle.oz_node_events.proofs.laws.it_stands_where_it_saw_more.Goals as goal

pub returns : goal.returns
returns g c view after node kept kept_after stood number mine begins =
    let O = g.O.Opened in
    let D = g.D.Disk in
    ready_stands O.coherent O.opening O.bytes O.script O.faults D.told D.clock D.image D.faults node view after kept kept_after number mine begins stood
