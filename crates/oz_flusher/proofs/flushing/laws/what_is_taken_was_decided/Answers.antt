use Rattle.oz_flusher.proofs.Laws.{ahead_all}
use Rattle.oz_flusher.proofs.flushing.laws.what_is_taken_was_decided.Goals as goal

pub returns : goal.returns
returns g c story coherent all none =
    let O = g.O.Opened in
    (ahead_all O.coherent O.opening O.bytes O.script coherent story all).level none
