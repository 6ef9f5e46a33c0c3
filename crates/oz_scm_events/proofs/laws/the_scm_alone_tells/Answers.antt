use Rattle.oz_scm_events.proofs.Telling.{containers_own, halt_own, log_own, next_own, up_own, ups_own}
use Rattle.oz_scm_events.proofs.laws.the_scm_alone_tells.Goals as goal

pub returns-clause-next : goal.returns-clause-next
returns-clause-next g c story coherent all =
    let O = g.O.Opened in
    next_own O.coherent O.opening O.bytes O.script coherent story all

pub returns-clause-containers : goal.returns-clause-containers
returns-clause-containers g c story coherent all =
    let O = g.O.Opened in
    containers_own O.coherent O.opening O.bytes O.script coherent story all

pub returns-clause-up : goal.returns-clause-up
returns-clause-up g c story dn coherent all =
    let O = g.O.Opened in
    up_own O.coherent O.opening O.bytes O.script coherent story all dn

pub returns-clause-ups : goal.returns-clause-ups
returns-clause-ups g c story coherent all =
    let O = g.O.Opened in
    ups_own O.coherent O.opening O.bytes O.script coherent story all

pub returns-clause-last_txn : goal.returns-clause-last_txn
returns-clause-last_txn g c story coherent all =
    let O = g.O.Opened in
    (log_own O.coherent O.opening O.bytes O.script coherent story all).last

pub returns-clause-logs : goal.returns-clause-logs
returns-clause-logs g c story coherent all =
    let O = g.O.Opened in
    (log_own O.coherent O.opening O.bytes O.script coherent story all).logs_are

pub returns-clause-acknowledgers : goal.returns-clause-acknowledgers
returns-clause-acknowledgers g c story number coherent all =
    let O = g.O.Opened in
    (log_own O.coherent O.opening O.bytes O.script coherent story all).acknowledgers_are number

pub returns-clause-retired : goal.returns-clause-retired
returns-clause-retired g c story number coherent all =
    let O = g.O.Opened in
    (log_own O.coherent O.opening O.bytes O.script coherent story all).retired_is number

pub returns-clause-halt : goal.returns-clause-halt
returns-clause-halt g c story all =
    let O = g.O.Opened in
    halt_own O.coherent O.opening O.bytes O.script story all
