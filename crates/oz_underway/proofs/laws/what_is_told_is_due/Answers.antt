use Rattle.oz_underway.specs.laws.UnderWay.{due_fits, told_fits, told_is_due}
use Rattle.oz_underway.proofs.laws.what_is_told_is_due.Goals as goal

pub returns-clause-due : goal.returns-clause-due
returns-clause-due g c seen line asked said command progress got answer way step story begins all so as_said has_it =
    let O = g.O.Opened in
    told_is_due O.coherent O.opening O.bytes O.script seen line asked said command progress got answer way step story begins all so as_said has_it

pub returns-clause-fits : goal.returns-clause-fits
returns-clause-fits g c coherent seen line asked said command progress got answer last way step of_last story begins all is as_said has_it =
    let O = g.O.Opened in
    told_fits O.coherent O.opening O.bytes O.script seen line asked said command progress got answer last coherent way step of_last story begins all is as_said has_it

pub returns-clause-given : goal.returns-clause-given
returns-clause-given g c seen line asked said command progress answer way story begins all due =
    let O = g.O.Opened in
    due_fits O.coherent O.opening O.bytes O.script seen line asked said command progress answer way story begins due
