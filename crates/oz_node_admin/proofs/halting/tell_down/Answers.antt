use Rattle.std.proofs.Common.{◌≡◌, false, List, ap, ◌∙◌, subst}
use Rattle.oz_core.specs.declared.event.Event.{Event}
use Rattle.oz_core.specs.Nodes.{is_running}
use Rattle.oz_turn.specs.Seat.{seen_of}
use Rattle.oz_turn.specs.Told.{BeginsWith}
use Rattle.oz_node_admin.specs.Commands.{HasBeen}
use Rattle.oz_node_admin.proofs.Down.{halted_by_its_own}
use Rattle.oz_node_admin.proofs.Told.{has_been}
use Rattle.oz_node_admin.proofs.halting.tell_down.Goals as goal

pub track-requires-clause-runs : goal.track-requires-clause-runs
track-requires-clause-runs g c =
    let O = g.O.Opened in
    let show = c.show.ensures in
    halted_by_its_own O.coherent O.opening O.bytes O.script c.show.new.self c.args.kept.now.dn (seen_of c.args.seat.now) (seen_of c.show.new.other)
    (λ story dn all. c.its_seat_alone_tells.ensures.halt story dn all) show.kept show.number show.other_seen show.other_begins c.requires.halted

pub returns-clause-down : goal.returns-clause-down
returns-clause-down g c =
    let O = g.O.Opened in
    let show = c.show.ensures in
    let track = c.track.ensures in
    let kept = c.show.new.self in
    let seen = seen_of c.args.seat.now in
    let story = seen_of c.track.new.other in
    let still : is_running kept.dn kept.mine ≡ false =
    halted_by_its_own O.coherent O.opening O.bytes O.script kept c.args.kept.now.dn seen (seen_of c.show.new.other)
    (λ place dn all. c.its_seat_alone_tells.ensures.halt place dn all) show.kept show.number show.other_seen show.other_begins c.requires.halted in
    subst (λ n. HasBeen O.coherent n false seen story) show.number
    (has_been O.coherent O.opening O.bytes O.script kept.dn false c.track.result kept.seen c.track.new.self.mine c.ready.new.self.mine c.track.new.scm.mine seen story
    track.shared (subst (λ (l : List Event). BeginsWith l seen) show.other_seen show.other_begins)
    (λ place coherent all. c.a_datanode_alone_tells_that_it_runs.ensures place kept.dn coherent all)
    (λ place coherent all. c.the_scm_alone_tells.ensures.up place kept.dn coherent all)
    (ap (is_running kept.dn) track.mine ∙ still) track.own)
