use Rattle.oz_scm_events.proofs.Needed.{needs_still}
use Rattle.oz_scm_events.proofs.laws.a_need_stays_until_a_grant.Goals as goal

pub returns : goal.returns
returns g c story seen stripe container pipeline coherent all begins same needed =
    let O = g.O.Opened in
    needs_still O.coherent O.opening O.bytes O.script coherent story seen stripe container pipeline all begins same needed
