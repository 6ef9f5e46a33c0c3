use Rattle.oz_asker.specs.laws.Asks.{legal_of_follow}
use Rattle.oz_kept.specs.reopened.laws.Placed.{held_by_member}
use Rattle.oz_underway.proofs.laws.holders_are_members.Goals as goal

pub returns : goal.returns
returns g c coherent whole story dn block all held =
    let O = g.O.Opened in
    held_by_member O.opening O.bytes story block dn (legal_of_follow O.coherent O.opening O.bytes O.script story coherent all) whole.blocks held
