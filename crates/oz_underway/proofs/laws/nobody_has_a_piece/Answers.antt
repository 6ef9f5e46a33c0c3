use Rattle.oz_underway.specs.laws.Reading.{none_intact}
use Rattle.oz_underway.proofs.laws.nobody_has_a_piece.Goals as goal

pub returns : goal.returns
returns g c coherent whole seen line asked said command progress piece way reading story begins all last still none =
    let O = g.O.Opened in
    none_intact O.coherent O.opening O.bytes O.script seen line asked said command progress piece coherent way reading story begins all whole.blocks last still none
