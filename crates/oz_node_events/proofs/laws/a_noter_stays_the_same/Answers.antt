use Rattle.oz_node_events.proofs.Answering.{all_same, given_same, reads_short_same, short_same}
use Rattle.oz_node_events.proofs.laws.a_noter_stays_the_same.Goals as goal

pub returns-clause-written : goal.returns-clause-written
returns-clause-written g c subject members answers before after all =
    let O = g.O.Opened in
    let D = g.D.Disk in
    all_same D.told D.clock D.image D.faults O.coherent O.opening O.bytes O.script O.faults subject members answers before after all

pub returns-clause-unwritten : goal.returns-clause-unwritten
returns-clause-unwritten g c subject members before after short =
    let O = g.O.Opened in
    let D = g.D.Disk in
    short_same D.told D.clock D.image D.faults O.coherent O.opening O.bytes O.script O.faults subject members before after short

pub returns-clause-read : goal.returns-clause-read
returns-clause-read g c subject size members given before after first =
    let O = g.O.Opened in
    let D = g.D.Disk in
    given_same D.told D.clock D.image D.faults O.coherent O.opening O.bytes O.script O.faults subject size members given before after first

pub returns-clause-unread : goal.returns-clause-unread
returns-clause-unread g c subject size members before after short =
    let O = g.O.Opened in
    let D = g.D.Disk in
    reads_short_same D.told D.clock D.image D.faults O.coherent O.opening O.bytes O.script O.faults subject size members before after short
