use Rattle.oz_flusher.proofs.flushing_lemmas.Telling.{halt_own, swapped_own, durable_own, moment_own}
use Rattle.oz_flusher.proofs.flushing.laws.the_flusher_alone_tells.Goals as goal

pub returns-clause-halt : goal.returns-clause-halt
returns-clause-halt g c story coherent all =
    let O = g.O.Opened in
    halt_own O.coherent O.opening O.bytes O.script coherent story all

pub returns-clause-swapped : goal.returns-clause-swapped
returns-clause-swapped g c story coherent all =
    let O = g.O.Opened in
    swapped_own O.coherent O.opening O.bytes O.script coherent story all

pub returns-clause-durable : goal.returns-clause-durable
returns-clause-durable g c story coherent all =
    let O = g.O.Opened in
    durable_own O.coherent O.opening O.bytes O.script coherent story all

pub returns-clause-moment : goal.returns-clause-moment
returns-clause-moment g c story coherent all =
    let O = g.O.Opened in
    moment_own O.coherent O.opening O.bytes O.script coherent story all
