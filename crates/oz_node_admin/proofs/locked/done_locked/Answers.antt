use Rattle.std.proofs.Common.{true, false, sym, ◌∙◌, subst}
use Rattle.oz_node_events.specs.declared.command.NodeCommand.{NodeCommand}
use Rattle.oz_node_events.specs.NodeSeat.{IsKept}
use Rattle.oz_turn.specs.Seat.{seen_of}
use Rattle.oz_node_admin.specs.Came.{CameOf}
use Rattle.oz_node_admin.proofs.Came.{came_run, came_wiped}
use Rattle.oz_node_admin.proofs.locked.done_locked.Goals as goal

pub returns-in-Stop-clause-came : goal.returns-in-Stop-clause-came
returns-in-Stop-clause-came g c =
    let O = g.O.Opened in
    let D = g.D.Disk in
    subst (λ (d : NodeCommand). CameOf O.coherent O.opening O.bytes O.script c.args.dn d c.args.line.now (seen_of c.args.seat.now) (seen_of c.stop_at.new.seat) c.stop_at.result) (sym c.in-Stop.is)
    (came_run O.coherent O.opening O.bytes O.script c.args.cell.now c.stop_at.new.cell c.args.scm.now c.stop_at.new.scm c.args.line.now (seen_of c.args.seat.now) (seen_of c.stop_at.new.seat) c.args.dn
    (sym c.stop_at.ensures.stood.number ∙ c.requires.its) (subst (λ v. IsKept O.coherent O.opening O.bytes O.script v.kept) c.cell.view_is c.is_kept.ensures) D.faults false c.stop_at.result c.stop_at.ensures.comes_to)

pub returns-in-Start-clause-came : goal.returns-in-Start-clause-came
returns-in-Start-clause-came g c =
    let O = g.O.Opened in
    let D = g.D.Disk in
    subst (λ (d : NodeCommand). CameOf O.coherent O.opening O.bytes O.script c.args.dn d c.args.line.now (seen_of c.args.seat.now) (seen_of c.start_at.new.seat) c.start_at.result) (sym c.in-Start.is)
    (came_run O.coherent O.opening O.bytes O.script c.args.cell.now c.start_at.new.cell c.args.scm.now c.start_at.new.scm c.args.line.now (seen_of c.args.seat.now) (seen_of c.start_at.new.seat) c.args.dn
    (sym c.start_at.ensures.stood.number ∙ c.requires.its) (subst (λ v. IsKept O.coherent O.opening O.bytes O.script v.kept) c.cell.view_is c.is_kept.ensures) D.faults true c.start_at.result c.start_at.ensures.comes_to)

pub returns-in-Wipe-clause-came : goal.returns-in-Wipe-clause-came
returns-in-Wipe-clause-came g c =
    let O = g.O.Opened in
    let D = g.D.Disk in
    subst (λ (d : NodeCommand). CameOf O.coherent O.opening O.bytes O.script c.args.dn d c.args.line.now (seen_of c.args.seat.now) (seen_of c.wipe_at.new.seat) c.wipe_at.result) (sym c.in-Wipe.is)
    (came_wiped O.coherent O.opening O.bytes O.script c.args.cell.now c.wipe_at.new.cell c.args.scm.now c.wipe_at.new.scm c.args.line.now (seen_of c.args.seat.now) (seen_of c.wipe_at.new.seat) c.args.dn
    (sym c.wipe_at.ensures.stood.number ∙ c.requires.its) (subst (λ v. IsKept O.coherent O.opening O.bytes O.script v.kept) c.cell.view_is c.is_kept.ensures) D.told D.clock D.image D.faults c.wipe_at.result c.wipe_at.ensures.comes_to)
