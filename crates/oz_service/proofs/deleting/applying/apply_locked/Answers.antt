use Rattle.std.proofs.Common.{◌≡◌, ℕ, List, sym, ap, ◌∙◌, subst}
use Rattle.oz_core.specs.declared.event.Event.{Event}
use Rattle.oz_datanode.specs.Datanode.{node_in}
use Rattle.oz_node_events.specs.Deleting.{as_done}
use Rattle.oz_turn.specs.Seat.{seen_of}
use Rattle.oz_service.specs.Deleting.{AppliedSo}
use Rattle.oz_service.proofs.Sent.{applied_so}
use Rattle.oz_service.proofs.deleting.applying.apply_locked.Goals as goal

pub returns-clause-applied : goal.returns-clause-applied
returns-clause-applied g c =
    let O = g.O.Opened in
    let D = g.D.Disk in
    let view = c.cell.inside.kept in
    let later = c.delete.new.self in
    let old = c.cell.inside.node in
    let seen = seen_of c.args.seat.now in
    let txn = c.args.txn.now in
    let did = c.delete.ensures in
    let came = as_done c.delete.result in
    let number : view.dn ≡ c.args.dn =
    sym c.cell.invariant.stood.number ∙ (ap (λ v. v.node.id) c.cell.view_is ∙ c.requires.its) in
    subst (λ (n : ℕ). AppliedSo O.coherent n txn seen (seen_of c.delete.new.other) came) number
    (subst (λ (l : List Event). AppliedSo O.coherent view.dn txn seen l came) (sym did.other.seen)
    (applied_so D.told D.clock D.image D.faults O.coherent O.opening O.bytes O.script O.faults
    (λ story dn all. c.its_seat_alone_tells.ensures.halt story dn all)
    (λ story dn coherent all. c.a_datanode_alone_tells_that_it_runs.ensures story dn coherent all)
    (λ one node stands unhalted. c.a_line_has_it_run_or_not.ensures.runs one node stands unhalted)
    txn (node_in old) seen view later old c.delete.new.node came did.comes))
