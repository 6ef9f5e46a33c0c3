use Rattle.oz_underway.specs.laws.UnderWay.{piece_read}
use Rattle.oz_underway.proofs.laws.a_piece_is_read.Goals as goal

pub returns : goal.returns
returns g c coherent numbered seen later line asked said command progress piece content way reading as_said begins all has =
    let O = g.O.Opened in
    piece_read O.coherent O.opening O.bytes O.script numbered seen later line asked said command progress piece content coherent way reading as_said begins all has
