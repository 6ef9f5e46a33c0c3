use Rattle.std.proofs.Common.{rules, ◌≡◌, length, subst}
use Rattle.oz_node_events.specs.NodeSeat.{IsKept as SeatIsKept, StandsFor}
use Rattle.oz_at_work.specs.servers.Served.{IsServed}
use Rattle.oz_at_work.proofs.servers_lemmas.Served.{served_more}
use Rattle.oz_at_work.proofs.servers.parting.+part_below.Goals as goal

pub returns-clause-served : goal.returns-clause-served
returns-clause-served g t c =
    let D = g.D.Disk in
    let O = g.O.Opened in
    let Kept = SeatIsKept O.coherent O.opening O.bytes O.script in
    let Stands = StandsFor D.told D.clock D.image D.faults O.coherent O.opening O.bytes O.script O.faults in
    let number : c.len.result ≡ length c.part_below.new.nodes.items = search rules in
    served_more g.R.Ring.turn Kept Stands c.part_below.new.nodes.items c.push_reserved.new.self.items c.part_below.new.seats.items c.push_reserved-2.new.self.items
    c.numbered-node.result.0 c.numbered-node.result.1 c.push_reserved.ensures.items c.push_reserved-2.ensures.items c.part_below.ensures.served
    (subst (λ n. IsServed g.R.Ring.turn Kept Stands n c.numbered-node.result.0 c.numbered-node.result.1) number c.numbered-node.ensures)
