use Rattle.oz_underway.specs.laws.UnderWay.{still_under_way, whatever_said}
use Rattle.oz_underway.proofs.laws.a_line_stays_under_way.Goals as goal

pub returns-clause-later : goal.returns-clause-later
returns-clause-later g c seen later line asked said command progress way begins =
    let O = g.O.Opened in
    still_under_way O.coherent O.opening O.bytes O.script later seen line asked said command progress begins way

pub returns-clause-written : goal.returns-clause-written
returns-clause-written g c seen line asked said other command progress written way =
    let O = g.O.Opened in
    whatever_said O.coherent O.opening O.bytes O.script seen line asked said other command progress written way
