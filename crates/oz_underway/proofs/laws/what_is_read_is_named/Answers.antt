use Rattle.oz_underway.specs.laws.Reading.{read_is_named}
use Rattle.oz_underway.proofs.laws.what_is_read_is_named.Goals as goal

pub returns : goal.returns
returns g c coherent seen line asked said command progress piece way reading story begins all =
    let O = g.O.Opened in
    read_is_named O.coherent O.opening O.bytes O.script seen line asked said command progress piece coherent way reading story begins all
