use Rattle.oz_at_work.proofs.Leaving.{label_left}
use Rattle.oz_at_work.proofs.laws.a_label_was_left.Goals as goal

pub returns-clause-commits : goal.returns-clause-commits
returns-clause-commits g c seen line opened name left does its has =
    let O = g.O.Opened in
    label_left O.coherent O.opening O.bytes O.script seen line opened name left does its has
