use Rattle.std.proofs.Common.{◌+◌, sym, subst}
use Rattle.oz_buffer.specs.Buffer.{Follows}
use Rattle.oz_core.specs.declared.event.Event.{Event}
use Rattle.oz_core.specs.declared.event.EventKind.{EventKind}
use Rattle.oz_node_events.proofs.Outcomes.{end_follows}
use Rattle.oz_node_events.proofs.doing.end_in.Goals as goal

pub note-requires-clause-follows : goal.note-requires-clause-follows
note-requires-clause-follows g c =
    let O = g.O.Opened in
    let D = g.D.Disk in
    let story = c.args.ledger.now.story in
    subst (λ n. Follows O.coherent O.opening O.bytes O.script story (record { seat = 4 + n; kind = c.end_kind-kind.result })) (sym c.from-seat.ensures)
    (subst (λ (k : EventKind). Follows O.coherent O.opening O.bytes O.script story (record { seat = 4 + c.args.dn; kind = k })) (sym c.end_kind-kind.ensures.kind)
    (end_follows D.told D.clock D.image D.faults O.coherent c.args.done c.args.node.now c.end-end.new.node (λ (e : Event). Follows O.coherent O.opening O.bytes O.script story e) c.args.dn c.end-end.result
    c.end-end.ensures.ends c.requires.follows c.requires.halts))
