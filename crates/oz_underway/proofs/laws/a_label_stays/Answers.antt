use Rattle.std.proofs.Common.{◌∙◌, ap}
use Rattle.oz_core.specs.Steps.{commit_step}
use Rattle.oz_underway.specs.laws.Commits.{label_stays}
use Rattle.oz_underway.specs.laws.Labels.{commit_stays, never_opened, no_label, open_still}
use Rattle.oz_underway.specs.laws.Said.{said_of_written}
use Rattle.oz_underway.proofs.laws.a_label_stays.Goals as goal

pub returns-clause-commit : goal.returns-clause-commit
returns-clause-commit g c coherent seen opened asked said command progress label way left so is story begins all as_said =
    let O = g.O.Opened in
    commit_stays O.coherent O.opening O.bytes O.script seen opened asked said command progress label coherent way left so is story begins all as_said

pub returns-clause-ok : goal.returns-clause-ok
returns-clause-ok g c coherent seen opened line asked said command progress label name way left so is written its story begins all =
    let O = g.O.Opened in
    ap (commit_step story) its
    ∙ commit_stays O.coherent O.opening O.bytes O.script seen opened asked said command progress label coherent way left so is story begins all
    (said_of_written story opened said progress written)

pub returns-clause-open : goal.returns-clause-open
returns-clause-open g c coherent seen opened told story begins all =
    let O = g.O.Opened in
    open_still O.coherent O.opening O.bytes O.script opened story seen coherent all begins told

pub returns-clause-not_open : goal.returns-clause-not_open
returns-clause-not_open g c coherent seen opened line name told shut its story begins all =
    let O = g.O.Opened in
    (opened, its, open_still O.coherent O.opening O.bytes O.script opened story seen coherent all begins told ∙ shut)

pub returns-clause-none : goal.returns-clause-none
returns-clause-none g c story line command label other =
    let O = g.O.Opened in
    no_label O.script story line command label other

pub returns-clause-unopened : goal.returns-clause-unopened
returns-clause-unopened g c story line name label none is =
    let O = g.O.Opened in
    never_opened O.script story line name label none is

pub returns-clause-started : goal.returns-clause-started
returns-clause-started g c coherent numbered since seen line command label other started begins all is =
    let O = g.O.Opened in
    label_stays O.coherent O.opening O.bytes O.script numbered line other since seen coherent all begins started command label is
