use Rattle.oz_node_events.proofs.Moving.{stands_on}
use Rattle.oz_node_events.proofs.Telling.{closed_own, halt_own, line_own}
use Rattle.oz_node_events.proofs.laws.its_seat_alone_tells.Goals as goal

pub returns-clause-halt : goal.returns-clause-halt
returns-clause-halt g c story dn all =
    let O = g.O.Opened in
    halt_own O.coherent O.opening O.bytes O.script dn story all

pub returns-clause-line : goal.returns-clause-line
returns-clause-line g c coherent story dn all =
    let O = g.O.Opened in
    line_own O.coherent O.opening O.bytes O.script dn coherent story all

pub returns-clause-closed : goal.returns-clause-closed
returns-clause-closed g c coherent story dn container all =
    let O = g.O.Opened in
    closed_own O.coherent O.opening O.bytes O.script dn coherent container story all

pub returns-clause-stands : goal.returns-clause-stands
returns-clause-stands g c view node story kept stood begins all own =
    let O = g.O.Opened in
    stands_on g.D.Disk.told g.D.Disk.clock g.D.Disk.image g.D.Disk.faults O.coherent O.opening O.bytes O.script O.faults node view kept stood story view.room begins all own
