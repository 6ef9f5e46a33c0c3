use Rattle.oz_at_work.proofs.Staying.{begin_still, left_still, work_still}
use Rattle.oz_at_work.proofs.laws.what_is_at_work_stays.Goals as goal

pub returns-clause-begins : goal.returns-clause-begins
returns-clause-begins g c seen later line label begins may =
    let O = g.O.Opened in
    begin_still O.coherent O.opening O.bytes O.script later seen begins line label may

pub returns-clause-works : goal.returns-clause-works
returns-clause-works g c seen later work begins works =
    let O = g.O.Opened in
    work_still O.coherent O.opening O.bytes O.script later seen begins work works

pub returns-clause-left : goal.returns-clause-left
returns-clause-left g c seen later line left begins has =
    let O = g.O.Opened in
    left_still O.coherent O.opening O.bytes O.script later seen begins line left has
