use Rattle.oz_underway.specs.laws.Asks.{last_id, none_last, same_asks}
use Rattle.oz_underway.specs.laws.Lasting.{last_of_times, times_of_last}
use Rattle.oz_underway.specs.laws.Told.{asks_stop}
use Rattle.oz_underway.specs.laws.UnderWay.{idle_asks}
use Rattle.oz_core.specs.Asks.{asks_of}
use Rattle.oz_underway.proofs.laws.asks_stay.Goals as goal

pub returns-clause-counted : goal.returns-clause-counted
returns-clause-counted g c coherent client line story id other all last =
    let O = g.O.Opened in
    last_id O.coherent O.opening O.bytes O.script client line other story coherent all id last

pub returns-clause-none : goal.returns-clause-none
returns-clause-none g c client line story none = none_last (asks_of client line story) none

pub returns-clause-same : goal.returns-clause-same
returns-clause-same g c coherent client line seen other story begins all same =
    let O = g.O.Opened in
    same_asks O.coherent O.opening O.bytes O.script client line seen story other coherent all begins same

pub returns-clause-told : goal.returns-clause-told
returns-clause-told g c coherent client line seen other told story begins all =
    let O = g.O.Opened in
    asks_stop O.coherent O.opening O.bytes O.script client line story seen other coherent all begins told

pub returns-clause-idle : goal.returns-clause-idle
returns-clause-idle g c coherent numbered seen line asked said command progress way idle story begins all as_said =
    let O = g.O.Opened in
    idle_asks O.coherent O.opening O.bytes O.script numbered seen line asked said command progress coherent way idle story begins all as_said

pub returns-clause-times : goal.returns-clause-times
returns-clause-times g c coherent client line asked story last other all of_last is =
    let O = g.O.Opened in
    times_of_last O.coherent O.opening O.bytes O.script client line asked story other coherent all last of_last is

pub returns-clause-last : goal.returns-clause-last
returns-clause-last g c client line asked = last_of_times client line asked
