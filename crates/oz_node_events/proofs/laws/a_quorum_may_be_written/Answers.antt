use Rattle.std.proofs.Common.{refl}
use Rattle.oz_node_events.proofs.Answering.{answers_stand}
use Rattle.oz_node_events.proofs.Quorum.{may_be_written}
use Rattle.oz_node_events.proofs.laws.a_quorum_may_be_written.Goals as goal

pub returns : goal.returns
returns g c coherent fresh subject dns answers before after story seat answered all has =
    let O = g.O.Opened in
    let D = g.D.Disk in
    let stand = answers_stand D.told D.clock D.image D.faults O.coherent O.opening O.bytes O.script O.faults subject before.id before.first dns answers before after refl refl answered in
    may_be_written O.coherent O.opening O.bytes O.script coherent fresh before.id subject.block dns answers after.seen story seat all stand has
