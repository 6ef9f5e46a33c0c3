use Rattle.oz_underway.specs.laws.Writing.{quorum_may_follow}
use Rattle.oz_underway.proofs.laws.a_quorum_follows.Goals as goal

pub returns : goal.returns
returns g c least seen line asked said seat command progress granted answers way writing nodes of_line two story begins all answered now =
    let O = g.O.Opened in
    quorum_may_follow O.coherent O.opening O.bytes O.script seen line asked said seat command progress granted answers way writing nodes least of_line two story begins all answered now
