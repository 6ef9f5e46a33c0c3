use Rattle.oz_node_events.proofs.Wiping.{halt_follows, halt_stands}
use Rattle.oz_node_events.proofs.laws.a_failed_disk_halts_it.Goals as goal

pub returns-clause-follows : goal.returns-clause-follows
returns-clause-follows g c view node count story kept stood unhalted some all own =
    let O = g.O.Opened in
    halt_follows O.coherent O.opening O.bytes O.script O.faults g.D.Disk.told g.D.Disk.clock g.D.Disk.image g.D.Disk.faults view node count kept stood unhalted some story all own

pub returns-clause-stands : goal.returns-clause-stands
returns-clause-stands g c view after old new count other kept kept_after stood halts number mine told_so =
    let O = g.O.Opened in
    halt_stands O.coherent O.opening O.bytes O.script O.faults g.D.Disk.told g.D.Disk.clock g.D.Disk.image g.D.Disk.faults view after old new count other kept kept_after stood halts number mine told_so
