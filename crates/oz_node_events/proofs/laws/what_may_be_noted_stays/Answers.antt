use Rattle.oz_node_events.proofs.Lasting.{may_still}
use Rattle.oz_node_events.proofs.laws.what_may_be_noted_stays.Goals as goal

pub returns : goal.returns
returns g c coherent whole numbered seen story id first subject of_script may begins all =
    let O = g.O.Opened in
    may_still O.coherent O.opening O.bytes O.script coherent whole numbered seen story id first subject of_script may begins all
