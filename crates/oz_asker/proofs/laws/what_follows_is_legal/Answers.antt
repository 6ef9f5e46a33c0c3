use Rattle.oz_asker.specs.laws.Asks.{legal_of_follow}
use Rattle.oz_asker.proofs.laws.what_follows_is_legal.Goals as goal

pub returns : goal.returns
returns g c story coherent all =
    let O = g.O.Opened in
    legal_of_follow O.coherent O.opening O.bytes O.script story coherent all
