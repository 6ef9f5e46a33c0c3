use Rattle.std.proofs.Common.{ℕ, [], ◌∷◌, refl, sym, subst}
use Rattle.oz_core.specs.declared.event.PutRefusal.TheVariants as refusals
use Rattle.oz_replicas.specs.Notes.{IsMember}
use Rattle.oz_replicas.specs.declared.note.Note.TheVariants as notes
use Rattle.oz_replicas.proofs.Telling.{leads_halt, leads_stop_after}
use Rattle.oz_replicas.proofs.halting.note_halt.Goals as goal

pub note-requires-clause-happened : goal.note-requires-clause-happened
note-requires-clause-happened g c =
    let subject = g.N.Noter.subject c.args.noter.now in
    let old = c.requires.halts.0 in
    let after = c.requires.halts.1.0 in
    let found = c.requires.halts.1.1 in
    let member : IsMember subject c.id-dn.result old = subst (λ (n : ℕ). IsMember subject n old) (sym c.id-dn.ensures) found.1 in
    (old, (after, (found.0, leads_halt g.D.Disk.told g.D.Disk.clock g.D.Disk.image g.D.Disk.faults subject c.id-dn.result c.args.block subject.bytes c.args.count old after c.requires.block refl member found.2)))

pub note-requires-2-clause-happened : goal.note-requires-2-clause-happened
note-requires-2-clause-happened g c =
    let subject = g.N.Noter.subject c.args.noter.now in
    let old = c.requires.halts.0 in
    let after = c.requires.halts.1.0 in
    let found = c.requires.halts.1.1 in
    let member : IsMember subject c.id-dn.result old = subst (λ (n : ℕ). IsMember subject n old) (sym c.id-dn.ensures) found.1 in
    let stood = c.note.ensures.stands old after found.0 (leads_halt g.D.Disk.told g.D.Disk.clock g.D.Disk.image g.D.Disk.faults subject c.id-dn.result c.args.block subject.bytes c.args.count old after c.requires.block refl member found.2) in
    rw c.note.ensures.subject (after, (after, (stood, leads_stop_after g.D.Disk.told g.D.Disk.clock g.D.Disk.image g.D.Disk.faults subject c.id-dn.result c.args.block subject.bytes c.args.count old after c.requires.block member found.2)))

pub returns-clause-noted : goal.returns-clause-noted
returns-clause-noted g c =
    rw (← c.id-dn.ensures) (g.met.N.Noter.joins c.args.noter.now c.note.new.self c.note-2.new.self (notes.Halt c.id-dn.result c.args.count ∷ []) (notes.Refused c.id-dn.result c.args.block (refusals.Stopped c.args.count) ∷ []) c.note.ensures.noted c.note-2.ensures.noted)

pub returns-clause-stands : goal.returns-clause-stands
returns-clause-stands g c =
    let subject = g.N.Noter.subject c.args.noter.now in
    let old = c.requires.halts.0 in
    let after = c.requires.halts.1.0 in
    let found = c.requires.halts.1.1 in
    let member : IsMember subject c.id-dn.result old = subst (λ (n : ℕ). IsMember subject n old) (sym c.id-dn.ensures) found.1 in
    let stood = c.note.ensures.stands old after found.0 (leads_halt g.D.Disk.told g.D.Disk.clock g.D.Disk.image g.D.Disk.faults subject c.id-dn.result c.args.block subject.bytes c.args.count old after c.requires.block refl member found.2) in
    let leads = leads_stop_after g.D.Disk.told g.D.Disk.clock g.D.Disk.image g.D.Disk.faults subject c.id-dn.result c.args.block subject.bytes c.args.count old after c.requires.block member found.2 in
    let left = c.note-2.ensures.stands after after stood (rw c.note.ensures.subject leads) in
    g.met.K.Kept.stays c.note-2.new.kept after c.args.node.now found.3 left
