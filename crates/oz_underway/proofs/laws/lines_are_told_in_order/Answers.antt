use Rattle.oz_underway.specs.laws.Order.{fits_all}
use Rattle.oz_underway.proofs.laws.lines_are_told_in_order.Goals as goal

pub returns : goal.returns
returns g c coherent numbered story all =
    let O = g.O.Opened in
    fits_all O.coherent O.opening O.bytes O.script numbered story coherent all
