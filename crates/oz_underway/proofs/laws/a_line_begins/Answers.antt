use Rattle.oz_underway.specs.laws.UnderWay.{begins, begins_started}
use Rattle.oz_underway.proofs.laws.a_line_begins.Goals as goal

pub returns-clause-started : goal.returns-clause-started
returns-clause-started g c coherent numbered seen line command said nodes label there does all started is =
    let O = g.O.Opened in
    begins_started O.coherent O.opening O.bytes O.script numbered seen line said command nodes label coherent there all started does is

pub returns-clause-unasked : goal.returns-clause-unasked
returns-clause-unasked g c coherent seen line command said nodes label there other does started none labelled =
    let O = g.O.Opened in
    begins O.coherent O.opening O.bytes O.script seen line said command nodes label coherent there other started does none labelled
