use Rattle.std.specs.Prelude.{Ok, not}
use Rattle.std.proofs.Common.{◌≡◌, List, ap, ◌∙◌, subst}
use Rattle.oz_core.specs.declared.event.Event.{Event}
use Rattle.oz_core.specs.Nodes.{is_running}
use Rattle.oz_datanode.specs.Datanode.{is_halted}
use Rattle.oz_scm_events.specs.Tracked.{IsTracked}
use Rattle.oz_turn.specs.Seat.{seen_of}
use Rattle.oz_turn.specs.Told.{BeginsWith}
use Rattle.oz_node_admin.specs.Commands.{HasBeen}
use Rattle.oz_node_admin.proofs.Told.{begins_through, has_been, runs_back}
use Rattle.oz_node_admin.proofs.commanding.carry_out.Goals as goal

pub returns-in-Ok-clause-stays : goal.returns-in-Ok-clause-stays
returns-in-Ok-clause-stays g c =
    let done = c.see_to.ensures.stays in
    let track = c.track.ensures in
    record {
      number = track.number ∙ done.number;
      kept = track.kept;
      stands = c.it_stands_where_it_saw_more.ensures c.see_to.new.kept c.track.new.self c.see_to.new.node track.kept_before track.kept done.stands track.number track.mine track.goes_on;
      goes_on = begins_through c.track.new.self.seen c.see_to.new.kept.seen c.args.kept.now.seen track.goes_on done.goes_on;
    }

pub returns-in-Ok-clause-of_the_scm : goal.returns-in-Ok-clause-of_the_scm
returns-in-Ok-clause-of_the_scm g c =
    subst (λ n. IsTracked {E = Unit {0}} n c.args.runs c.args.scm.now.mine c.track.new.scm.mine (Ok c.track.result)) c.see_to.ensures.stays.number c.track.ensures.own

pub returns-in-Ok-clause-has_been : goal.returns-in-Ok-clause-has_been
returns-in-Ok-clause-has_been g c =
    let O = g.O.Opened in
    let kept = c.see_to.new.kept in
    let track = c.track.ensures in
    let done = c.see_to.ensures in
    let running : is_running kept.dn kept.mine ≡ c.args.runs =
    c.a_line_has_it_run_or_not.ensures.runs kept c.see_to.new.node done.stays.stands (ap (λ s. is_halted s) c.in-Ok.ensures.node ∙ c.requires.able.unhalted)
    ∙ (ap (λ s. not s.stopped) c.in-Ok.ensures.node ∙ runs_back c.args.runs) in
    subst (λ n. HasBeen O.coherent n c.args.runs (seen_of c.args.seat.now) (seen_of c.track.new.other)) done.stays.number
    (has_been O.coherent O.opening O.bytes O.script kept.dn c.args.runs c.track.result kept.seen c.track.new.self.mine c.args.scm.now.mine c.track.new.scm.mine (seen_of c.args.seat.now) (seen_of c.track.new.other)
    track.shared (subst (λ (l : List Event). BeginsWith l (seen_of c.args.seat.now)) done.seen done.looked.begins)
    (λ place coherent all. c.a_datanode_alone_tells_that_it_runs.ensures place kept.dn coherent all)
    (λ place coherent all. c.the_scm_alone_tells.ensures.up place kept.dn coherent all)
    (ap (is_running kept.dn) track.mine ∙ running) track.own)

pub returns-in-Err-clause-scm_left : goal.returns-in-Err-clause-scm_left
returns-in-Err-clause-scm_left g c = c.unready.ensures.same
