use Rattle.std.proofs.Common.{◌≡◌, ℕ, List, [], ◌∷◌, length, refl, sym, ◌∙◌, subst}
use Rattle.oz_core.specs.declared.event.PutRefusal.TheVariants as refusals
use Rattle.oz_replicas.specs.Outcomes.{Halts}
use Rattle.oz_replicas.specs.declared.note.Note.TheVariants as notes
use Rattle.oz_replicas.proofs.Telling.{leads_put, leads_refused, leads_halt, leads_stop_after, member_of, member_still, put_answers, refused_answers, halt_answers}
use Rattle.oz_replicas.proofs.writing.write_beside.Goals as goal

pub note-requires-clause-happened : goal.note-requires-clause-happened
note-requires-clause-happened g c =
    let subject = g.N.Noter.subject c.args.noter.now in
    let goes = c.in-Ok.ensures.goes in
    let member = member_still g.D.Disk.told g.D.Disk.clock g.D.Disk.image g.D.Disk.faults subject c.id-dn.result c.args.node.now goes.0 goes.1.0.id (member_of g.D.Disk.told g.D.Disk.clock g.D.Disk.image g.D.Disk.faults subject c.id-dn.result c.args.node.now c.id-dn.ensures c.requires.member) in
    let leads = leads_put g.D.Disk.told g.D.Disk.clock g.D.Disk.image g.D.Disk.faults subject c.id-dn.result c.args.block c.len-length.result c.args.bytes.now goes.0 c.write_whole.new.node c.requires.its_block c.requires.its_bytes member c.len-length.ensures (record { least = c.requires.least; most = c.requires.most }) goes.1.1 in
    let stood = g.met.K.Kept.stays c.ready.new.kept c.args.node.now goes.0 goes.1.0 (c.ready.ensures.stands c.args.node.now c.requires.stood) in
    rw c.ready.ensures.subject (goes.0, (c.write_whole.new.node, (stood, leads)))

pub returns-in-Ok-clause-answers : goal.returns-in-Ok-clause-answers
returns-in-Ok-clause-answers g c =
    let subject = g.N.Noter.subject c.args.noter.now in
    let goes = c.in-Ok.ensures.goes in
    let member = member_still g.D.Disk.told g.D.Disk.clock g.D.Disk.image g.D.Disk.faults subject c.id-dn.result c.args.node.now goes.0 goes.1.0.id (member_of g.D.Disk.told g.D.Disk.clock g.D.Disk.image g.D.Disk.faults subject c.id-dn.result c.args.node.now c.id-dn.ensures c.requires.member) in
    let leads = leads_put g.D.Disk.told g.D.Disk.clock g.D.Disk.image g.D.Disk.faults subject c.id-dn.result c.args.block c.len-length.result c.args.bytes.now goes.0 c.write_whole.new.node c.requires.its_block c.requires.its_bytes member c.len-length.ensures (record { least = c.requires.least; most = c.requires.most }) goes.1.1 in
    let same : length c.args.bytes.now ≡ length subject.bytes = rw c.requires.its_bytes refl in
    let whole : c.len-length.result ≡ length subject.bytes = c.len-length.ensures ∙ same in
    let note = notes.Put c.id-dn.result c.args.block c.len-length.result in (
      note ∷ [],
      (
        g.met.N.Noter.joins c.args.noter.now c.ready.new.self c.note.new.self [] (note ∷ []) c.ready.ensures.noted c.note.ensures.noted,
        put_answers g.D.Disk.told g.D.Disk.clock g.D.Disk.image g.D.Disk.faults subject c.id-dn.result c.args.block c.len-length.result c.args.node.now goes.0 c.write_whole.new.node c.requires.its_block c.id-dn.ensures whole goes.1.0 leads,
      ),
    )

pub returns-in-Ok-clause-stands : goal.returns-in-Ok-clause-stands
returns-in-Ok-clause-stands g c =
    let subject = g.N.Noter.subject c.args.noter.now in
    let goes = c.in-Ok.ensures.goes in
    let member = member_still g.D.Disk.told g.D.Disk.clock g.D.Disk.image g.D.Disk.faults subject c.id-dn.result c.args.node.now goes.0 goes.1.0.id (member_of g.D.Disk.told g.D.Disk.clock g.D.Disk.image g.D.Disk.faults subject c.id-dn.result c.args.node.now c.id-dn.ensures c.requires.member) in
    let leads = leads_put g.D.Disk.told g.D.Disk.clock g.D.Disk.image g.D.Disk.faults subject c.id-dn.result c.args.block c.len-length.result c.args.bytes.now goes.0 c.write_whole.new.node c.requires.its_block c.requires.its_bytes member c.len-length.ensures (record { least = c.requires.least; most = c.requires.most }) goes.1.1 in
    let stood = g.met.K.Kept.stays c.ready.new.kept c.args.node.now goes.0 goes.1.0 (c.ready.ensures.stands c.args.node.now c.requires.stood) in
    c.note.ensures.stands goes.0 c.write_whole.new.node stood (rw c.ready.ensures.subject leads)

pub note-requires-in-Err-Refused-clause-happened : goal.note-requires-in-Err-Refused-clause-happened
note-requires-in-Err-Refused-clause-happened g c =
    let subject = g.N.Noter.subject c.args.noter.now in
    let goes = rw c.in-Err-Refused.field-0-is at c.in-Err-Refused.ensures.goes in
    let member = member_still g.D.Disk.told g.D.Disk.clock g.D.Disk.image g.D.Disk.faults subject c.id-dn.result c.args.node.now goes.0 goes.1.0.id (member_of g.D.Disk.told g.D.Disk.clock g.D.Disk.image g.D.Disk.faults subject c.id-dn.result c.args.node.now c.id-dn.ensures c.requires.member) in
    let leads = leads_refused g.D.Disk.told g.D.Disk.clock g.D.Disk.image g.D.Disk.faults subject c.id-dn.result c.args.block c.args.bytes.now c.in-Err-Refused.refusal goes.0 c.requires.its_block c.requires.its_bytes member goes.1.1 in
    let stood = g.met.K.Kept.stays c.ready.new.kept c.args.node.now goes.0 goes.1.0 (c.ready.ensures.stands c.args.node.now c.requires.stood) in
    rw c.ready.ensures.subject (goes.0, (goes.0, (stood, leads)))

pub returns-in-Err-Refused-clause-answers : goal.returns-in-Err-Refused-clause-answers
returns-in-Err-Refused-clause-answers g c =
    let subject = g.N.Noter.subject c.args.noter.now in
    let goes = rw c.in-Err-Refused.field-0-is at c.in-Err-Refused.ensures.goes in
    let member = member_still g.D.Disk.told g.D.Disk.clock g.D.Disk.image g.D.Disk.faults subject c.id-dn.result c.args.node.now goes.0 goes.1.0.id (member_of g.D.Disk.told g.D.Disk.clock g.D.Disk.image g.D.Disk.faults subject c.id-dn.result c.args.node.now c.id-dn.ensures c.requires.member) in
    let leads = leads_refused g.D.Disk.told g.D.Disk.clock g.D.Disk.image g.D.Disk.faults subject c.id-dn.result c.args.block c.args.bytes.now c.in-Err-Refused.refusal goes.0 c.requires.its_block c.requires.its_bytes member goes.1.1 in
    let note = notes.Refused c.id-dn.result c.args.block c.in-Err-Refused.refusal in (
      note ∷ [],
      (
        g.met.N.Noter.joins c.args.noter.now c.ready.new.self c.note-in-Err-Refused.new.self [] (note ∷ []) c.ready.ensures.noted c.note-in-Err-Refused.ensures.noted,
        refused_answers g.D.Disk.told g.D.Disk.clock g.D.Disk.image g.D.Disk.faults subject c.id-dn.result c.args.block c.in-Err-Refused.refusal c.args.node.now goes.0 c.write_whole.new.node c.requires.its_block c.id-dn.ensures goes.1.0 leads goes.1.2,
      ),
    )

pub returns-in-Err-Refused-clause-stands : goal.returns-in-Err-Refused-clause-stands
returns-in-Err-Refused-clause-stands g c =
    let subject = g.N.Noter.subject c.args.noter.now in
    let goes = rw c.in-Err-Refused.field-0-is at c.in-Err-Refused.ensures.goes in
    let member = member_still g.D.Disk.told g.D.Disk.clock g.D.Disk.image g.D.Disk.faults subject c.id-dn.result c.args.node.now goes.0 goes.1.0.id (member_of g.D.Disk.told g.D.Disk.clock g.D.Disk.image g.D.Disk.faults subject c.id-dn.result c.args.node.now c.id-dn.ensures c.requires.member) in
    let leads = leads_refused g.D.Disk.told g.D.Disk.clock g.D.Disk.image g.D.Disk.faults subject c.id-dn.result c.args.block c.args.bytes.now c.in-Err-Refused.refusal goes.0 c.requires.its_block c.requires.its_bytes member goes.1.1 in
    let stood = g.met.K.Kept.stays c.ready.new.kept c.args.node.now goes.0 goes.1.0 (c.ready.ensures.stands c.args.node.now c.requires.stood) in
    g.met.K.Kept.stays c.note-in-Err-Refused.new.kept goes.0 c.write_whole.new.node goes.1.2 (c.note-in-Err-Refused.ensures.stands goes.0 goes.0 stood (rw c.ready.ensures.subject leads))

pub note_halt-requires-clause-halts : goal.note_halt-requires-clause-halts
note_halt-requires-clause-halts g c =
    let subject = g.N.Noter.subject c.args.noter.now in
    let goes = rw c.in-Err-Halted.field-0-is at c.in-Err-Halted.ensures.goes in
    let found = goes.1.1 in
    let dn = c.write_whole.new.node.id in
    let same : c.write_whole.new.node.id ≡ c.args.node.now.id = found.2.id ∙ (found.1.id ∙ found.0.id) in
    let member = member_still g.D.Disk.told g.D.Disk.clock g.D.Disk.image g.D.Disk.faults subject dn c.args.node.now goes.0 found.0.id (member_of g.D.Disk.told g.D.Disk.clock g.D.Disk.image g.D.Disk.faults subject dn c.args.node.now same c.requires.member) in
    let stood = g.met.K.Kept.stays c.ready.new.kept c.args.node.now goes.0 found.0 (c.ready.ensures.stands c.args.node.now c.requires.stood) in
    let halts = subst (λ (l : List ℕ). Halts g.D.Disk.told g.D.Disk.clock g.D.Disk.image g.D.Disk.faults c.args.block l goes.0 goes.1.0 c.in-Err-Halted.count) (sym c.requires.its_bytes) found.1 in
    rw c.ready.ensures.subject (goes.0, (goes.1.0, (stood, member, halts, found.2)))

pub returns-in-Err-Halted-clause-answers : goal.returns-in-Err-Halted-clause-answers
returns-in-Err-Halted-clause-answers g c =
    let subject = g.N.Noter.subject c.args.noter.now in
    let goes = rw c.in-Err-Halted.field-0-is at c.in-Err-Halted.ensures.goes in
    let found = goes.1.1 in
    let same : c.write_whole.new.node.id ≡ c.args.node.now.id = found.2.id ∙ (found.1.id ∙ found.0.id) in
    let dn = c.write_whole.new.node.id in
    let member = member_still g.D.Disk.told g.D.Disk.clock g.D.Disk.image g.D.Disk.faults subject dn c.args.node.now goes.0 found.0.id (member_of g.D.Disk.told g.D.Disk.clock g.D.Disk.image g.D.Disk.faults subject dn c.args.node.now same c.requires.member) in
    let leads = leads_halt g.D.Disk.told g.D.Disk.clock g.D.Disk.image g.D.Disk.faults subject dn c.args.block c.args.bytes.now c.in-Err-Halted.count goes.0 goes.1.0 c.requires.its_block c.requires.its_bytes member found.1 in
    let more = leads_stop_after g.D.Disk.told g.D.Disk.clock g.D.Disk.image g.D.Disk.faults subject dn c.args.block c.args.bytes.now c.in-Err-Halted.count goes.0 goes.1.0 c.requires.its_block member found.1 in
    let said = notes.Halt dn c.in-Err-Halted.count ∷ notes.Refused dn c.args.block (refusals.Stopped c.in-Err-Halted.count) ∷ [] in (
      said,
      (
        g.met.N.Noter.joins c.args.noter.now c.ready.new.self c.note_halt.new.noter [] said c.ready.ensures.noted c.note_halt.ensures.noted,
        halt_answers g.D.Disk.told g.D.Disk.clock g.D.Disk.image g.D.Disk.faults subject dn c.args.block c.in-Err-Halted.count c.note_halt.result c.args.node.now goes.0 goes.1.0 c.write_whole.new.node c.requires.its_block same c.note_halt.ensures.answer found.0 leads more found.2,
      ),
    )
