use Rattle.std.proofs.Common.{◌∷◌, [], ◌++◌, sym, ap, ◌∙◌, subst}
use Rattle.oz_buffer.specs.Buffer.{Follows}
use Rattle.oz_core.specs.declared.event.Event.{Event}
use Rattle.oz_core.specs.declared.event.EventKind.{EventKind}
use Rattle.oz_core.specs.Seats.{datanode_seat}
use Rattle.oz_replicas.specs.Notes.{IfPut, Subject, Leads}
use Rattle.oz_turn.specs.Seat.{mine_of, number_of, room_of, seen_of}
use Rattle.oz_node_events.specs.NodeSeat.{IsAppended, PutsUntold, is_bad}
use Rattle.oz_node_events.specs.Noting.{AreTold, MayPut, NotingView}
use Rattle.oz_node_events.proofs.Following.{FilledIsFull}
use Rattle.oz_node_events.proofs.Noted.{appended_begins, note_untold, same_noting, noted_follows, noted_stands, noted_as, noted_told, noting_later, seen_alike}
use Rattle.oz_node_events.proofs.Sound.{none_noted}
use Rattle.oz_node_events.proofs.noting.NotingLedgerNoterNodeSeatLedger.note.Goals as goal

pub note-requires-clause-follows : goal.note-requires-clause-follows
note-requires-clause-follows g c story begins other all own =
    let O = g.O.Opened in
    let D = g.D.Disk in
    let filled : FilledIsFull D.told D.faults = λ opening story dn node block bytes used asked capacity stands rows most full.
    c.a_filled_datanode_is_full.ensures opening story dn node block bytes used asked capacity
    (c.a_journal_keeps_slots_apart.ensures.apart node stands) rows most full in
    let puts = c.a_journal_keeps_slots_apart.ensures.put in
    let inside = c.self.inside in
    let subject : Subject = record { block = inside.block; members = inside.members; bytes = inside.bytes.now } in
    let happened = c.requires.happened in
    let leads = subst (λ (s : Subject). Leads D.told D.clock D.image D.faults s c.args.note happened.0 happened.1.0) (sym (ap (λ v. v.subject) c.self.view_is)) happened.1.1.1 in
    subst (λ (k : EventKind). Follows O.coherent O.opening O.bytes O.script story (record { seat = datanode_seat c.args.kept.now.dn; kind = k })) (sym c.kind_of-kind.ensures.kind)
    (noted_follows O.coherent O.opening O.bytes O.script O.faults D.told D.clock D.image D.faults filled puts inside.id inside.first subject (seen_of inside.seat.now) c.self.invariant.3
    c.args.kept.now c.is_kept.ensures c.args.note happened.0 happened.1.0 happened.1.1.0 leads story begins other all own)

pub note-requires-clause-untold : goal.note-requires-clause-untold
note-requires-clause-untold g c =
    let inside = c.self.inside in
    let seen = c.args.kept.now.seen in
    let may = subst (λ (v : NotingView). IfPut c.args.note (MayPut v c.args.kept.now)) (sym c.self.view_is) c.requires.may_put in
    subst (λ (k : EventKind). PutsUntold k seen) (sym c.kind_of-kind.ensures.kind) (note_untold inside.id inside.first c.args.note seen may)

pub note-requires-clause-no_bad : goal.note-requires-clause-no_bad
note-requires-clause-no_bad g c coherent =
    let O = g.O.Opened in
    let D = g.D.Disk in
    let inside = c.self.inside in
    let subject : Subject = record { block = inside.block; members = inside.members; bytes = inside.bytes.now } in
    let happened = c.requires.happened in
    let leads = subst (λ (s : Subject). Leads D.told D.clock D.image D.faults s c.args.note happened.0 happened.1.0) (sym (ap (λ v. v.subject) c.self.view_is)) happened.1.1.1 in
    ap (λ (k : EventKind). is_bad k) c.kind_of-kind.ensures.kind
    ∙ none_noted O.coherent O.opening O.bytes O.script O.faults D.told D.clock D.image D.faults coherent c.args.kept.now happened.0 happened.1.1.0 inside.id inside.first
    subject c.args.note happened.1.0 leads

pub invariant_of-self : goal.invariant_of-self
invariant_of-self g c =
    let O = g.O.Opened in
    let D = g.D.Disk in
    let inside = c.self.inside in
    let subject : Subject = record { block = inside.block; members = inside.members; bytes = inside.bytes.now } in
    let note = c.note.ensures in
    let event : Event = record { seat = datanode_seat c.args.kept.now.dn; kind = c.kind_of-kind.result } in
    let begins = appended_begins event c.args.kept.now.seen (seen_of inside.seat.now) c.note.new.self.seen note.told in (
      c.self.invariant.0,
      note.other.0 ∙ c.self.invariant.1,
      note.other_free,
      noting_later O.coherent O.opening O.bytes O.script O.faults D.told D.clock D.image D.faults inside.id inside.first subject (seen_of inside.seat.now) (seen_of c.note.new.other)
          (begins.0, note.other_seen ∙ begins.1) c.self.invariant.3,
    )

pub returns-clause-noted : goal.returns-clause-noted
returns-clause-noted g c =
    let O = g.O.Opened in
    let D = g.D.Disk in
    let filled : FilledIsFull D.told D.faults = λ opening story dn node block bytes used asked capacity stands rows most full.
    c.a_filled_datanode_is_full.ensures opening story dn node block bytes used asked capacity
    (c.a_journal_keeps_slots_apart.ensures.apart node stands) rows most full in
    let puts = c.a_journal_keeps_slots_apart.ensures.put in
    let inside = c.self.inside in
    let subject : Subject = record { block = inside.block; members = inside.members; bytes = inside.bytes.now } in
    let happened = c.requires.happened in
    let leads = subst (λ (s : Subject). Leads D.told D.clock D.image D.faults s c.args.note happened.0 happened.1.0) (sym (ap (λ v. v.subject) c.self.view_is)) happened.1.1.1 in
    let note = c.note.ensures in
    let told_so = subst (λ (k : EventKind). IsAppended (record { seat = datanode_seat c.args.kept.now.dn; kind = k }) c.args.kept.now.seen (seen_of inside.seat.now) c.note.new.self.seen) c.kind_of-kind.ensures.kind note.told in
    let told = noted_told O.coherent O.opening O.bytes O.script O.faults D.told D.clock D.image D.faults filled puts inside.id inside.first subject (seen_of inside.seat.now) c.self.invariant.3
    c.args.kept.now c.is_kept.ensures c.args.note happened.0 happened.1.0 happened.1.1.0 leads c.note.new.self.seen told_so in
    let before : NotingView = record { reference = inside.seat.ghost_name; by = number_of inside.seat.now; seen = seen_of inside.seat.now; mine = mine_of inside.seat.now; room = room_of inside.seat.now; id = inside.id; first = inside.first; subject = subject } in
    let after : NotingView = record { reference = inside.seat.ghost_name; by = number_of c.note.new.other; seen = seen_of c.note.new.other; mine = mine_of c.note.new.other; room = room_of c.note.new.other; id = inside.id; first = inside.first; subject = subject } in
    noted_as before c.args.self.now after (c.args.note ∷ []) c.self.view_is
    (same_noting inside.seat.ghost_name (seen_of c.note.new.other) inside.id inside.first subject note.other.1 note.other_mine note.other_room)
    (subst (λ l. AreTold inside.id inside.first (c.args.note ∷ []) (seen_of inside.seat.now) l) (sym note.other_seen) told)

pub returns-clause-stands : goal.returns-clause-stands
returns-clause-stands g c old new stood leads_so =
    let O = g.O.Opened in
    let D = g.D.Disk in
    let filled : FilledIsFull D.told D.faults = λ opening story dn node block bytes used asked capacity stands rows most full.
    c.a_filled_datanode_is_full.ensures opening story dn node block bytes used asked capacity
    (c.a_journal_keeps_slots_apart.ensures.apart node stands) rows most full in
    let puts = c.a_journal_keeps_slots_apart.ensures.put in
    let inside = c.self.inside in
    let subject : Subject = record { block = inside.block; members = inside.members; bytes = inside.bytes.now } in
    let leads = subst (λ (s : Subject). Leads D.told D.clock D.image D.faults s c.args.note old new) (sym (ap (λ v. v.subject) c.self.view_is)) leads_so in
    let note = c.note.ensures in
    let told_so = subst (λ (k : EventKind). IsAppended (record { seat = datanode_seat c.args.kept.now.dn; kind = k }) c.args.kept.now.seen (seen_of inside.seat.now) c.note.new.self.seen) c.kind_of-kind.ensures.kind note.told in
    noted_stands O.coherent O.opening O.bytes O.script O.faults D.told D.clock D.image D.faults filled puts inside.id inside.first subject (seen_of inside.seat.now) c.self.invariant.3
    c.args.kept.now c.is_kept.ensures c.args.note old new stood leads c.note.new.self note.kept note.number
    (note.mine ∙ ap (λ (k : EventKind). c.args.kept.now.mine ++ record { seat = datanode_seat c.args.kept.now.dn; kind = k } ∷ []) c.kind_of-kind.ensures.kind)
    told_so

pub returns-clause-knows : goal.returns-clause-knows
returns-clause-knows g c = seen_alike (seen_of c.note.new.other) c.note.new.self.seen c.note.ensures.other_seen
