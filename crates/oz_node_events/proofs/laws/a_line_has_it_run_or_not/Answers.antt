use Rattle.oz_node_events.proofs.Commanding.{run_follows, run_stands, runs_as}
use Rattle.oz_node_events.proofs.laws.a_line_has_it_run_or_not.Goals as goal

pub returns-clause-runs : goal.returns-clause-runs
returns-clause-runs g c view node stood unhalted =
    let O = g.O.Opened in
    runs_as O.coherent O.opening O.bytes O.script O.faults g.D.Disk.told g.D.Disk.clock g.D.Disk.image g.D.Disk.faults view node stood unhalted

pub returns-clause-follows : goal.returns-clause-follows
returns-clause-follows g c view node runs story kept stood unhalted was all own fits =
    let O = g.O.Opened in
    run_follows O.coherent O.opening O.bytes O.script O.faults g.D.Disk.told g.D.Disk.clock g.D.Disk.image g.D.Disk.faults view node runs kept stood unhalted was story all own fits

pub returns-clause-stands : goal.returns-clause-stands
returns-clause-stands g c view after node runs other kept kept_after stood number mine told_so =
    let O = g.O.Opened in
    run_stands O.coherent O.opening O.bytes O.script O.faults g.D.Disk.told g.D.Disk.clock g.D.Disk.image g.D.Disk.faults view after node runs other kept kept_after stood number mine told_so
