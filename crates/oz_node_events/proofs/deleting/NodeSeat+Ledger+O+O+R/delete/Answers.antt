use Rattle.std.proofs.Common.{◌≡◌, List, [], Option, Some, refl, sym, ◌∙◌, subst}
use Rattle.std.proofs.lemmas.Result.{err_from_is_err_and}
use Rattle.std.specs.Prelude.{IfSome}
use Rattle.oz_buffer.specs.Buffer.{AllFollow, Follows}
use Rattle.oz_core.specs.declared.event.Event.{Event}
use Rattle.oz_core.specs.declared.event.EventKind.{EventKind}
use Rattle.oz_datanode.specs.Datanode.{node_in}
use Rattle.oz_turn.specs.Seat.{seen_of}
use Rattle.oz_turn.specs.Told.{BeginsWith}
use Rattle.oz_node_events.specs.Changing.{IsNoteOfChange}
use Rattle.oz_node_events.specs.Commands.{by_node}
use Rattle.oz_node_events.specs.Deleting.{as_done, delete_kind, held_locals}
use Rattle.oz_node_events.specs.NodeSeat.{events_of}
use Rattle.oz_node_events.proofs.Away.{delete_untold}
use Rattle.oz_node_events.proofs.Changed.{comes_of_none, notes_of}
use Rattle.oz_node_events.proofs.Deleted.{delete_comes, delete_tells, may_later, told_kind}
use Rattle.oz_node_events.proofs.Noted.{begins_through, ready_stands}
use Rattle.oz_node_events.proofs.deleting.NodeSeat+Ledger+O+O+R.delete.Goals as goal

pub give-requires-clause-kind : goal.give-requires-clause-kind
give-requires-clause-kind g c =
    let second = c.ready.new.self in
    let kind = told_kind second.dn (node_in c.args.node.now) c.args.txn.now c.dn-dn.result c.in_ok-locals.locals c.as_done.result c.apply-came.result c.dn-dn.ensures c.in_ok-locals.ensures c.as_done.ensures in
    subst (λ (k : Option EventKind). IfSome k IsNoteOfChange) (sym (c.change_kind-kind.ensures ∙ kind))
    (notes_of second.dn (Some (delete_kind second.dn (node_in c.args.node.now) c.args.txn.now)) (record { note = tt; no_bad = refl; uncommanded = tt; unput = delete_untold second.dn c.args.txn.now.number (held_locals (node_in c.args.node.now) c.args.txn.now) }) (as_done c.apply-came.result))

pub give-requires-clause-follows : goal.give-requires-clause-follows
give-requires-clause-follows g c =
    let O = g.O.Opened in
    let D = g.D.Disk in
    let first = c.args.self.now in
    let second = c.ready.new.self in
    let old = c.args.node.now in
    let new = c.apply-came.new.node in
    let others = seen_of c.ready.new.other in
    let ready = c.in_ok-ready.ensures in
    let stood = ready_stands O.coherent O.opening O.bytes O.script O.faults D.told D.clock D.image D.faults old first second ready.kept_before ready.kept ready.number ready.mine ready.goes_on c.requires.stood in
    let kind = told_kind second.dn (node_in old) c.args.txn.now c.dn-dn.result c.in_ok-locals.locals c.as_done.result c.apply-came.result c.dn-dn.ensures c.in_ok-locals.ensures c.as_done.ensures in
    subst (λ (k : Option EventKind). IfSome k (λ kind. (story : List Event) → BeginsWith story second.seen → BeginsWith story others → AllFollow (Follows O.coherent O.opening O.bytes O.script) [] story
    → events_of second.dn story ≡ second.mine → Follows O.coherent O.opening O.bytes O.script story (by_node second.dn kind))) (sym (c.change_kind-kind.ensures ∙ kind))
    (delete_tells O.coherent O.opening O.bytes O.script O.faults D.told D.clock D.image D.faults second ready.kept c.args.txn.now old stood others
    (λ coherent. may_later O.opening (seen_of c.args.other.now) others first.dn second.dn c.args.txn.now ready.number ready.other_begins (c.requires.may coherent))
    new c.apply-came.result c.apply-came.ensures.applied c.apply-came.ensures.refused)

pub returns-clause-comes : goal.returns-clause-comes
returns-clause-comes g c =
    let O = g.O.Opened in
    let D = g.D.Disk in
    let first = c.args.self.now in
    let second = c.ready.new.self in
    let old = c.args.node.now in
    let new = c.apply-came.new.node in
    let others = seen_of c.ready.new.other in
    let ready = c.in_ok-ready.ensures in
    let give = c.give.ensures in
    let kind = c.change_kind-kind.ensures ∙ told_kind second.dn (node_in old) c.args.txn.now c.dn-dn.result c.in_ok-locals.locals c.as_done.result c.apply-came.result c.dn-dn.ensures c.in_ok-locals.ensures c.as_done.ensures in
    delete_comes O.coherent O.opening O.bytes O.script O.faults D.told D.clock D.image D.faults first second c.give.new.self (seen_of c.args.other.now) others old new c.args.txn.now
    c.requires.apart c.requires.may ready.kept_before ready.kept give.kept c.requires.stood ready.number ready.mine ready.last ready.goes_on ready.other_begins give.number give.last c.apply-came.result
    c.change_kind-kind.result kind give.told give.mine c.apply-came.ensures.applied c.apply-came.ensures.refused c.apply-came.ensures.written

pub returns-clause-other : goal.returns-clause-other
returns-clause-other g c =
    let ready = c.in_ok-ready.ensures in
    let give = c.give.ensures.other in
    record {
      same = (give.same.0 ∙ ready.other.0, give.same.1 ∙ ready.other.1);
      free = give.free;
      begins = begins_through (seen_of c.give.new.other) (seen_of c.ready.new.other) (seen_of c.args.other.now) give.begins ready.other_begins;
      seen = give.seen;
      mine = give.mine ∙ ready.other_mine;
      room = give.room ∙ ready.other_room;
    }

pub returns-in_err-ready-clause-comes : goal.returns-in_err-ready-clause-comes
returns-in_err-ready-clause-comes g c =
    let O = g.O.Opened in
    let D = g.D.Disk in
    let first = c.args.self.now in
    let later = c.ready.new.self in
    let other = seen_of c.args.other.now in
    let old = c.args.node.now in
    let ready = c.in_err-ready.ensures in
    let p = err_from_is_err_and c.from_residual.result c.from_residual.ensures.1 in
    rw (p.1, p.2) (comes_of_none O.coherent O.opening O.bytes O.script O.faults D.told D.clock D.image D.faults (Some (delete_kind c.args.self.now.dn (node_in c.args.node.now) c.args.txn.now)) first first later other other old old
    ready.kept_before ready.kept c.requires.stood ready.number ready.mine ready.last ready.goes_on)

pub returns-in_err-locals-clause-comes : goal.returns-in_err-locals-clause-comes
returns-in_err-locals-clause-comes g c =
    let O = g.O.Opened in
    let D = g.D.Disk in
    let first = c.args.self.now in
    let later = c.ready.new.self in
    let other = seen_of c.args.other.now in
    let old = c.args.node.now in
    let ready = c.in_ok-ready.ensures in
    let p = err_from_is_err_and c.from_residual-in_err-locals.result c.from_residual-in_err-locals.ensures.1 in
    rw (p.1, p.2) (comes_of_none O.coherent O.opening O.bytes O.script O.faults D.told D.clock D.image D.faults (Some (delete_kind c.args.self.now.dn (node_in c.args.node.now) c.args.txn.now)) first first later other other old old
    ready.kept_before ready.kept c.requires.stood ready.number ready.mine ready.last ready.goes_on)
