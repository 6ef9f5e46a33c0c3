use Rattle.std.proofs.Common.{Option, List, ap, ◌∙◌}
use Rattle.std.proofs.lemmas.Result.{IfOk-weaker}
use Rattle.oz_core.specs.declared.event.PutRefusal.{PutRefusal}
use Rattle.oz_replicas.specs.Cells.{CellView}
use Rattle.oz_replicas.specs.Writing.{Answered, Answers}
use Rattle.oz_replicas.specs.declared.note.Note.{Note}
use Rattle.oz_replicas.proofs.replicas.write_member.Goals as goal

pub returns-clause-answered : goal.returns-clause-answered
returns-clause-answered g c =
    let cell = c.deref_mut.result.now in
    let left = c.write_hashed_at.new.cell in
    let subject = g.N.Noter.subject c.args.noter.now in
    IfOk-weaker c.write_hashed_at.result
    (λ (answer : Option PutRefusal). (said : List Note) × (g.N.Noter.noted c.args.noter.now said c.write_hashed_at.new.noter × Answers g.D.Disk.told g.D.Disk.clock g.D.Disk.image g.D.Disk.faults subject cell.node left.node answer said))
    (λ (answer : Option PutRefusal). Answered g.D.Disk.told g.D.Disk.clock g.D.Disk.image g.D.Disk.faults g.K.Kept.stands g.N.Noter.noted g.N.Noter.knows subject c.args.dn answer c.args.noter.now c.write_hashed_at.new.noter)
    (λ answer found. record {
      old = cell.node;
      new = left.node;
      member = ap (λ (v : CellView g.row.D.Denot g.row.K.Denot). v.node.id) c.deref_mut.ensures.value ∙ c.lock-cell.ensures;
      kept = (cell.kept, c.write_hashed_at.ensures.before.stood);
      left = (left.kept, (c.write_hashed_at.ensures.after.stood, c.write_hashed_at.ensures.knows));
      said = found.0;
      told_so = found.1.0;
      answers = found.1.1;
    }) c.write_hashed_at.ensures.answers
