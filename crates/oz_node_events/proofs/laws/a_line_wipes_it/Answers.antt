use Rattle.oz_node_events.proofs.Wiping.{wipe_follows, wipe_stands}
use Rattle.oz_node_events.proofs.laws.a_line_wipes_it.Goals as goal

pub returns-clause-follows : goal.returns-clause-follows
returns-clause-follows g c view node story kept stood unhalted all own fits =
    let O = g.O.Opened in
    wipe_follows O.coherent O.opening O.bytes O.script O.faults g.D.Disk.told g.D.Disk.clock g.D.Disk.image g.D.Disk.faults view node kept stood unhalted story all own fits

pub returns-clause-stands : goal.returns-clause-stands
returns-clause-stands g c view after old new other kept kept_after stood wiped number mine told_so =
    let O = g.O.Opened in
    wipe_stands O.coherent O.opening O.bytes O.script O.faults g.D.Disk.told g.D.Disk.clock g.D.Disk.image g.D.Disk.faults view after old new other kept kept_after stood wiped number mine told_so
