use Rattle.std.specs.Prelude.{Ok, slice_set}
use Rattle.std.proofs.Common.{◌≡◌, refl, sym, ap, ◌∙◌, subst}
use Rattle.oz_core.specs.Nodes.{is_running}
use Rattle.oz_node_events.specs.Commands.{by_node}
use Rattle.oz_node_events.specs.NodeSeat.{IsAppended}
use Rattle.oz_scm_events.specs.Tracked.{IsTracked}
use Rattle.oz_turn.specs.Seat.{seen_of}
use Rattle.oz_node_admin.specs.Wipes.{HasTold, runs_now, wipe_event}
use Rattle.oz_node_admin.proofs.Emptying.{has_told, runs_told}
use Rattle.oz_node_admin.proofs.Told.{begins_through, scm_as}
use Rattle.oz_node_admin.proofs.wiped.carry_out.Goals as goal

pub track-requires-clause-runs : goal.track-requires-clause-runs
track-requires-clause-runs g c =
    let O = g.O.Opened in
    let D = g.D.Disk in
    runs_told O.coherent O.opening O.bytes O.script O.faults D.told D.clock D.image D.faults c.see_to.new.kept c.see_to.new.node c.see_to.ensures.stays.stands
    ∙ sym c.runs.ensures

pub returns-in-Ok-clause-stays : goal.returns-in-Ok-clause-stays
returns-in-Ok-clause-stays g c =
    let done = c.see_to.ensures.stays in
    let track = c.track.ensures in
    record {
      number = track.number ∙ done.number;
      kept = track.kept;
      stands = c.it_stands_where_it_saw_more.ensures c.see_to.new.kept c.track.new.self c.see_to.new.node track.kept_before track.kept done.stands
          track.number track.mine track.goes_on;
      goes_on = begins_through c.track.new.self.seen c.see_to.new.kept.seen c.args.kept.now.seen track.goes_on done.goes_on;
    }

pub returns-in-Ok-clause-seats : goal.returns-in-Ok-clause-seats
returns-in-Ok-clause-seats g c =
    let kept = c.see_to.new.kept in
    let node = c.see_to.new.node in
    let done = c.see_to.ensures in
    let track = c.track.ensures in
    let before = c.args.scm.now in
    let after = c.track.new.scm in
    record {
      number = track.number ∙ done.stays.number;
      its = track.mine ∙ c.in-Ok.ensures.its;
      changed = c.track.result;
      of_the_scm = subst (λ n. IsTracked {E = Unit {0}} n (runs_now node) before.mine after.mine (Ok c.track.result)) done.stays.number
          (subst (λ r. IsTracked {E = Unit {0}} kept.dn r before.mine after.mine (Ok c.track.result)) c.runs.ensures track.own);
      scm = scm_as after.scm before.scm before.scm kept.dn c.args.kept.now.dn (runs_now node)
          (subst (λ r. after.scm ≡ record before.scm { up = slice_set before.scm.up kept.dn r }) c.runs.ensures track.scm) refl done.stays.number;
    }

pub returns-in-Ok-clause-has_told : goal.returns-in-Ok-clause-has_told
returns-in-Ok-clause-has_told g c =
    let O = g.O.Opened in
    let D = g.D.Disk in
    let view = c.args.kept.now in
    let kept = c.see_to.new.kept in
    let done = c.see_to.ensures in
    let track = c.track.ensures in
    let result = c.in-Ok.done in
    let seen = seen_of c.args.seat.now in
    let running : is_running kept.dn kept.mine ≡ c.runs.result =
    runs_told O.coherent O.opening O.bytes O.script O.faults D.told D.clock D.image D.faults kept c.see_to.new.node done.stays.stands ∙ sym c.runs.ensures in
    subst (λ n. HasTold O.coherent n (wipe_event n result) seen (seen_of c.track.new.other)) done.stays.number
    (has_told O.coherent O.opening O.bytes O.script kept.dn c.runs.result c.track.result (wipe_event kept.dn result) view.seen seen kept.seen c.track.new.self.mine
    c.args.scm.now.mine c.track.new.scm.mine (seen_of c.track.new.other)
    (subst (λ n. IsAppended (by_node n (wipe_event n result)) view.seen seen kept.seen) (sym done.stays.number) c.in-Ok.ensures.told)
    track.shared
    (λ place coherent all. c.a_datanode_alone_tells_that_it_runs.ensures place kept.dn coherent all)
    (λ place coherent all. c.the_scm_alone_tells.ensures.up place kept.dn coherent all)
    (ap (is_running kept.dn) track.mine ∙ running) track.own)

pub returns-in-Err-clause-scm_left : goal.returns-in-Err-clause-scm_left
returns-in-Err-clause-scm_left g c = c.unready.ensures.same
