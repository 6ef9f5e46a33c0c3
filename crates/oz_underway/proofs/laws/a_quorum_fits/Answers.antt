use Rattle.oz_underway.specs.laws.Writing.{quorum_may_fit}
use Rattle.oz_underway.proofs.laws.a_quorum_fits.Goals as goal

pub returns : goal.returns
returns g c coherent least seen line asked said command progress granted answers way writing nodes story begins all answered now =
    let O = g.O.Opened in
    quorum_may_fit O.coherent O.opening O.bytes O.script seen line asked said command progress granted answers coherent way writing nodes least story begins all answered now
