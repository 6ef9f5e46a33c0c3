use Rattle.oz_scm_events.proofs.Telling.{running_own}
use Rattle.oz_scm_events.proofs.laws.a_datanode_alone_tells_that_it_runs.Goals as goal

pub returns : goal.returns
returns g c story dn coherent all =
    let O = g.O.Opened in
    running_own O.coherent O.opening O.bytes O.script coherent story all dn
