use Rattle.std.proofs.Common.{◌≡◌, List, [], Option, Some, refl, sym, ◌∙◌, subst}
use Rattle.std.proofs.lemmas.Result.{err_from_is_err_and}
use Rattle.std.specs.Prelude.{IfSome}
use Rattle.oz_buffer.specs.Buffer.{AllFollow, Follows}
use Rattle.oz_core.specs.declared.event.Event.{Event}
use Rattle.oz_core.specs.declared.event.EventKind.{EventKind}
use Rattle.oz_core.specs.declared.event.EventKind.TheVariants.{CloseCommand}
use Rattle.oz_turn.specs.Seat.{seen_of}
use Rattle.oz_turn.specs.Told.{BeginsWith}
use Rattle.oz_node_events.specs.Changing.{IsNoteOfChange, change_kind}
use Rattle.oz_node_events.specs.Closing.{MayClose}
use Rattle.oz_node_events.specs.Commands.{by_node}
use Rattle.oz_node_events.specs.NodeSeat.{events_of}
use Rattle.oz_node_events.proofs.Away.{close_untold}
use Rattle.oz_node_events.proofs.Changed.{comes_of_none, notes_of}
use Rattle.oz_node_events.proofs.Noted.{begins_through, ready_stands}
use Rattle.oz_node_events.proofs.Replicas.{close_comes, close_later, close_tells}
use Rattle.oz_node_events.proofs.closing.NodeSeat+Ledger+O+O+R.close_replica.Goals as goal

pub give-requires-clause-kind : goal.give-requires-clause-kind
give-requires-clause-kind g c =
    let second = c.ready.new.self in
    let came = c.set_state-came.result in
    let kind : c.change_kind-kind.result ≡ change_kind second.dn (Some (CloseCommand second.dn c.args.container)) came = c.change_kind-kind.ensures ∙ (λ i. change_kind (c.dn-dn.ensures i) (Some (CloseCommand (c.dn-dn.ensures i) c.args.container)) came) in
    subst (λ (k : Option EventKind). IfSome k IsNoteOfChange) (sym kind) (notes_of second.dn (Some (CloseCommand second.dn c.args.container)) (record { note = tt; no_bad = refl; uncommanded = tt; unput = close_untold second.dn c.args.container }) came)

pub give-requires-clause-follows : goal.give-requires-clause-follows
give-requires-clause-follows g c =
    let O = g.O.Opened in
    let D = g.D.Disk in
    let first = c.args.self.now in
    let second = c.ready.new.self in
    let old = c.args.node.now in
    let new = c.set_state-came.new.node in
    let came = c.set_state-came.result in
    let others = seen_of c.ready.new.other in
    let ready = c.in_ok-ready.ensures in
    let stood = ready_stands O.coherent O.opening O.bytes O.script O.faults D.told D.clock D.image D.faults old first second ready.kept_before ready.kept ready.number ready.mine ready.goes_on c.requires.stood in
    let kind : c.change_kind-kind.result ≡ change_kind second.dn (Some (CloseCommand second.dn c.args.container)) came = c.change_kind-kind.ensures ∙ (λ i. change_kind (c.dn-dn.ensures i) (Some (CloseCommand (c.dn-dn.ensures i) c.args.container)) came) in
    subst (λ (k : Option EventKind). IfSome k (λ kind. (story : List Event) → BeginsWith story second.seen → BeginsWith story others → AllFollow (Follows O.coherent O.opening O.bytes O.script) [] story
    → events_of second.dn story ≡ second.mine → Follows O.coherent O.opening O.bytes O.script story (by_node second.dn kind))) (sym kind)
    (close_tells O.coherent O.opening O.bytes O.script O.faults D.told D.clock D.image D.faults second ready.kept c.args.container c.args.state old stood others
    (λ coherent. subst (λ (l : List Event). MayClose O.opening l c.args.container) (sym ready.other_begins.1) (close_later O.opening (seen_of c.args.other.now) ready.other_begins.0 c.args.container (c.requires.may coherent)))
    new came c.set_state-came.ensures.changed c.set_state-came.ensures.refused)

pub returns-clause-comes : goal.returns-clause-comes
returns-clause-comes g c =
    let O = g.O.Opened in
    let D = g.D.Disk in
    let second = c.ready.new.self in
    let came = c.set_state-came.result in
    let ready = c.in_ok-ready.ensures in
    let give = c.give.ensures in
    let kind : c.change_kind-kind.result ≡ change_kind second.dn (Some (CloseCommand second.dn c.args.container)) came = c.change_kind-kind.ensures ∙ (λ i. change_kind (c.dn-dn.ensures i) (Some (CloseCommand (c.dn-dn.ensures i) c.args.container)) came) in
    close_comes O.coherent O.opening O.bytes O.script O.faults D.told D.clock D.image D.faults c.args.self.now second c.give.new.self (seen_of c.args.other.now) (seen_of c.ready.new.other) c.args.node.now c.set_state-came.new.node c.args.container ready.kept_before ready.kept give.kept c.requires.stood ready.number ready.mine ready.last ready.goes_on ready.other_begins give.number give.last came
    c.args.state c.requires.closed c.change_kind-kind.result kind give.told give.mine c.set_state-came.ensures.changed c.set_state-came.ensures.refused c.set_state-came.ensures.written

pub returns-clause-other : goal.returns-clause-other
returns-clause-other g c =
    let ready = c.in_ok-ready.ensures in
    let give = c.give.ensures.other in
    record {
      same = (give.same.0 ∙ ready.other.0, give.same.1 ∙ ready.other.1);
      free = give.free;
      begins = begins_through (seen_of c.give.new.other) (seen_of c.ready.new.other) (seen_of c.args.other.now) give.begins ready.other_begins;
      seen = give.seen;
      mine = give.mine ∙ ready.other_mine;
      room = give.room ∙ ready.other_room;
    }

pub returns-in_err-ready-clause-comes : goal.returns-in_err-ready-clause-comes
returns-in_err-ready-clause-comes g c =
    let O = g.O.Opened in
    let D = g.D.Disk in
    let first = c.args.self.now in
    let later = c.ready.new.self in
    let other = seen_of c.args.other.now in
    let old = c.args.node.now in
    let ready = c.in_err-ready.ensures in
    let p = err_from_is_err_and c.from_residual.result c.from_residual.ensures.1 in
    rw (p.1, p.2) (comes_of_none O.coherent O.opening O.bytes O.script O.faults D.told D.clock D.image D.faults (Some (CloseCommand c.args.self.now.dn c.args.container)) first first later other other old old
    ready.kept_before ready.kept c.requires.stood ready.number ready.mine ready.last ready.goes_on)
