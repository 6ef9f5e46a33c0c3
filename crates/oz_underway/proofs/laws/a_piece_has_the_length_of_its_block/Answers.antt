use Rattle.oz_underway.specs.laws.Lengths.{read_content, read_length, read_new}
use Rattle.oz_underway.proofs.laws.a_piece_has_the_length_of_its_block.Goals as goal

pub returns-clause-content : goal.returns-clause-content
returns-clause-content g c coherent whole numbered seen line asked said command progress piece way reading story begins all =
    let O = g.O.Opened in
    read_content O.coherent O.opening O.bytes O.script seen line asked said command progress piece coherent whole numbered way reading story begins all

pub returns-clause-new : goal.returns-clause-new
returns-clause-new g c coherent whole numbered seen line asked said command progress piece way reading new story begins all =
    let O = g.O.Opened in
    read_new O.coherent O.opening O.bytes O.script seen line asked said command progress piece coherent whole numbered way reading story begins all new

pub returns-clause-length : goal.returns-clause-length
returns-clause-length g c coherent whole numbered had seen line asked said command progress piece way reading story begins all =
    let O = g.O.Opened in
    read_length O.coherent O.opening O.bytes O.script seen line asked said command progress piece coherent whole numbered way reading story begins all had
