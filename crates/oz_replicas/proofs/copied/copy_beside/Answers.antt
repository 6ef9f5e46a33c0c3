use Rattle.std.proofs.Common.{[], ◌∷◌, refl}
use Rattle.oz_core.specs.declared.event.PutRefusal.TheVariants as refusals
use Rattle.oz_replicas.specs.declared.note.Note.TheVariants as notes
use Rattle.oz_replicas.proofs.Opening.{none_opens, chunks_open, absent_lost}
use Rattle.oz_replicas.proofs.Staying.{stays_itself, stays_same}
use Rattle.oz_replicas.proofs.Telling.{leads_stopped, leads_halt, leads_stop_after, leads_bad, member_of, goes_one, goes_two, bad_lost, stopped_lost, halt_lost}
use Rattle.oz_replicas.proofs.copied.copy_beside.Goals as goal

pub note-requires-clause-happened : goal.note-requires-clause-happened
note-requires-clause-happened g c =
    let subject = g.N.Noter.subject c.args.noter.now in
    let loses = rw c.in-Err-Stopped.field-0-is at c.in-Err-Stopped.ensures.loses in
    let member = member_of g.D.Disk.told g.D.Disk.clock g.D.Disk.image g.D.Disk.faults subject c.id-dn.result c.args.node.now c.id-dn.ensures c.requires.member in
    let leads = leads_stopped g.D.Disk.told g.D.Disk.clock g.D.Disk.image g.D.Disk.faults subject c.id-dn.result c.args.piece.block c.in-Err-Stopped.count c.args.node.now c.requires.its_block member loses.0 in
    rw c.ready.ensures.subject (c.args.node.now, (c.args.node.now, (c.ready.ensures.stands c.args.node.now c.requires.stood, leads)))

pub returns-in-Err-Stopped-clause-copied : goal.returns-in-Err-Stopped-clause-copied
returns-in-Err-Stopped-clause-copied g c =
    let subject = g.N.Noter.subject c.args.noter.now in
    let loses = rw c.in-Err-Stopped.field-0-is at c.in-Err-Stopped.ensures.loses in
    let member = member_of g.D.Disk.told g.D.Disk.clock g.D.Disk.image g.D.Disk.faults subject c.id-dn.result c.args.node.now c.id-dn.ensures c.requires.member in
    let leads = leads_stopped g.D.Disk.told g.D.Disk.clock g.D.Disk.image g.D.Disk.faults subject c.id-dn.result c.args.piece.block c.in-Err-Stopped.count c.args.node.now c.requires.its_block member loses.0 in
    let note = notes.Refused c.id-dn.result c.args.piece.block (refusals.Stopped c.in-Err-Stopped.count) in (
      note ∷ [],
      (
        g.met.N.Noter.joins c.args.noter.now c.ready.new.self c.note.new.self [] (note ∷ []) c.ready.ensures.noted c.note.ensures.noted,
        goes_one g.D.Disk.told g.D.Disk.clock g.D.Disk.image g.D.Disk.faults subject note c.args.node.now c.args.node.now c.args.node.now c.copy_whole.new.node (stays_itself g.D.Disk.told g.D.Disk.clock g.D.Disk.image g.D.Disk.faults c.args.node.now) leads (stays_same g.D.Disk.told g.D.Disk.clock g.D.Disk.image g.D.Disk.faults c.args.node.now c.copy_whole.new.node loses.1),
        λ given none. none_opens g.D.Disk.told g.D.Disk.clock g.D.Disk.image g.D.Disk.faults subject c.args.piece.length c.args.node.now c.copy_whole.new.node _ given none (stopped_lost g.D.Disk.told g.D.Disk.clock g.D.Disk.image g.D.Disk.faults subject c.id-dn.result c.args.piece.block c.in-Err-Stopped.count c.args.piece.length c.args.node.now c.copy_whole.new.node c.requires.its_block c.id-dn.ensures),
      ),
    )

pub note_halt-requires-clause-halts : goal.note_halt-requires-clause-halts
note_halt-requires-clause-halts g c =
    let subject = g.N.Noter.subject c.args.noter.now in
    let loses = rw c.in-Err-Halted.field-0-is at c.in-Err-Halted.ensures.loses in
    let halts = loses subject.bytes in
    let member = member_of g.D.Disk.told g.D.Disk.clock g.D.Disk.image g.D.Disk.faults subject c.copy_whole.new.node.id c.args.node.now halts.id c.requires.member in
    rw c.ready.ensures.subject (c.args.node.now, (c.copy_whole.new.node, (c.ready.ensures.stands c.args.node.now c.requires.stood, member, halts, stays_itself g.D.Disk.told g.D.Disk.clock g.D.Disk.image g.D.Disk.faults c.copy_whole.new.node)))

pub returns-in-Err-Halted-clause-copied : goal.returns-in-Err-Halted-clause-copied
returns-in-Err-Halted-clause-copied g c =
    let subject = g.N.Noter.subject c.args.noter.now in
    let loses = rw c.in-Err-Halted.field-0-is at c.in-Err-Halted.ensures.loses in
    let halts = loses subject.bytes in
    let dn = c.copy_whole.new.node.id in
    let member = member_of g.D.Disk.told g.D.Disk.clock g.D.Disk.image g.D.Disk.faults subject dn c.args.node.now halts.id c.requires.member in
    let leads = leads_halt g.D.Disk.told g.D.Disk.clock g.D.Disk.image g.D.Disk.faults subject dn c.args.piece.block subject.bytes c.in-Err-Halted.count c.args.node.now c.copy_whole.new.node c.requires.its_block refl member halts in
    let more = leads_stop_after g.D.Disk.told g.D.Disk.clock g.D.Disk.image g.D.Disk.faults subject dn c.args.piece.block subject.bytes c.in-Err-Halted.count c.args.node.now c.copy_whole.new.node c.requires.its_block member halts in
    let one = notes.Halt dn c.in-Err-Halted.count in
    let two = notes.Refused dn c.args.piece.block (refusals.Stopped c.in-Err-Halted.count) in (
      one ∷ two ∷ [],
      (
        g.met.N.Noter.joins c.args.noter.now c.ready.new.self c.note_halt.new.noter [] (one ∷ two ∷ []) c.ready.ensures.noted c.note_halt.ensures.noted,
        goes_two g.D.Disk.told g.D.Disk.clock g.D.Disk.image g.D.Disk.faults subject one two c.args.node.now c.args.node.now c.copy_whole.new.node c.copy_whole.new.node (stays_itself g.D.Disk.told g.D.Disk.clock g.D.Disk.image g.D.Disk.faults c.args.node.now) leads more (stays_itself g.D.Disk.told g.D.Disk.clock g.D.Disk.image g.D.Disk.faults c.copy_whole.new.node),
        λ given none. none_opens g.D.Disk.told g.D.Disk.clock g.D.Disk.image g.D.Disk.faults subject c.args.piece.length c.args.node.now c.copy_whole.new.node _ given none (halt_lost g.D.Disk.told g.D.Disk.clock g.D.Disk.image g.D.Disk.faults subject dn c.args.piece.block c.in-Err-Halted.count c.args.piece.length c.args.node.now c.copy_whole.new.node c.requires.its_block halts.id),
      ),
    )

pub note-requires-in-Err-Bad-clause-happened : goal.note-requires-in-Err-Bad-clause-happened
note-requires-in-Err-Bad-clause-happened g c =
    let subject = g.N.Noter.subject c.args.noter.now in
    let loses = rw c.in-Err-Bad.field-0-is at c.in-Err-Bad.ensures.loses in
    let member = member_of g.D.Disk.told g.D.Disk.clock g.D.Disk.image g.D.Disk.faults subject c.id-dn.result c.args.node.now c.id-dn.ensures c.requires.member in
    let leads = leads_bad g.D.Disk.told g.D.Disk.clock g.D.Disk.image g.D.Disk.faults subject c.id-dn.result c.args.piece.block c.args.node.now c.copy_whole.new.node c.requires.its_block member loses in
    rw c.ready.ensures.subject (c.args.node.now, (c.copy_whole.new.node, (c.ready.ensures.stands c.args.node.now c.requires.stood, leads)))

pub returns-in-Err-Bad-clause-copied : goal.returns-in-Err-Bad-clause-copied
returns-in-Err-Bad-clause-copied g c =
    let subject = g.N.Noter.subject c.args.noter.now in
    let loses = rw c.in-Err-Bad.field-0-is at c.in-Err-Bad.ensures.loses in
    let member = member_of g.D.Disk.told g.D.Disk.clock g.D.Disk.image g.D.Disk.faults subject c.id-dn.result c.args.node.now c.id-dn.ensures c.requires.member in
    let leads = leads_bad g.D.Disk.told g.D.Disk.clock g.D.Disk.image g.D.Disk.faults subject c.id-dn.result c.args.piece.block c.args.node.now c.copy_whole.new.node c.requires.its_block member loses in
    let note = notes.Bad c.id-dn.result c.args.piece.block in (
      note ∷ [],
      (
        g.met.N.Noter.joins c.args.noter.now c.ready.new.self c.note-in-Err-Bad.new.self [] (note ∷ []) c.ready.ensures.noted c.note-in-Err-Bad.ensures.noted,
        goes_one g.D.Disk.told g.D.Disk.clock g.D.Disk.image g.D.Disk.faults subject note c.args.node.now c.args.node.now c.copy_whole.new.node c.copy_whole.new.node (stays_itself g.D.Disk.told g.D.Disk.clock g.D.Disk.image g.D.Disk.faults c.args.node.now) leads (stays_itself g.D.Disk.told g.D.Disk.clock g.D.Disk.image g.D.Disk.faults c.copy_whole.new.node),
        λ given none. none_opens g.D.Disk.told g.D.Disk.clock g.D.Disk.image g.D.Disk.faults subject c.args.piece.length c.args.node.now c.copy_whole.new.node _ given none (bad_lost g.D.Disk.told g.D.Disk.clock g.D.Disk.image g.D.Disk.faults subject c.id-dn.result c.args.piece.block c.args.piece.length c.args.node.now c.copy_whole.new.node c.requires.its_block c.id-dn.ensures),
      ),
    )

pub returns-in-Ok-clause-copied : goal.returns-in-Ok-clause-copied
returns-in-Ok-clause-copied g c = (
  [],
  (
    c.ready.ensures.noted,
    c.in-Ok.ensures.stays,
    λ given opens. chunks_open g.D.Disk.told g.D.Disk.clock g.D.Disk.image g.D.Disk.faults (g.N.Noter.subject c.args.noter.now) c.args.piece.length c.args.node.now c.copy_whole.new.node c.args.piece.block _ given c.requires.its_block c.in-Ok.ensures.gives opens,
  ),
)

pub returns-in-Err-Absent-clause-copied : goal.returns-in-Err-Absent-clause-copied
returns-in-Err-Absent-clause-copied g c =
    let subject = g.N.Noter.subject c.args.noter.now in
    let loses = rw c.in-Err-Absent.field-0-is at c.in-Err-Absent.ensures.loses in (
      [],
      (
        c.ready.ensures.noted,
        loses.0,
        λ given none. none_opens g.D.Disk.told g.D.Disk.clock g.D.Disk.image g.D.Disk.faults subject c.args.piece.length c.args.node.now c.copy_whole.new.node [] given none (absent_lost g.D.Disk.told g.D.Disk.clock g.D.Disk.image g.D.Disk.faults subject c.args.piece.length c.args.node.now c.copy_whole.new.node c.args.piece.block c.requires.its_block loses.1),
      ),
    )
