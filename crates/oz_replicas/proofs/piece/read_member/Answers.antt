use Rattle.std.proofs.Common.{Option, List, ℕ, Vec, Global, ap, ◌∙◌}
use Rattle.std.proofs.lemmas.Result.{IfOk-weaker}
use Rattle.std.specs.Option.{option_map}
use Rattle.oz_replicas.specs.Cells.{CellView}
use Rattle.oz_replicas.specs.Notes.{Goes}
use Rattle.oz_replicas.specs.Reading.{Gave, IsGiven}
use Rattle.oz_replicas.specs.declared.note.Note.{Note}
use Rattle.oz_replicas.proofs.piece.read_member.Goals as goal

pub returns-clause-gave : goal.returns-clause-gave
returns-clause-gave g c =
    let cell = c.deref_mut.result.now in
    let left = c.read_at.new.cell in
    let subject = g.N.Noter.subject c.args.noter.now in
    IfOk-weaker c.read_at.result
    (λ (given : Option (Vec ℕ Global)). (said : List Note) × (g.N.Noter.noted c.args.noter.now said c.read_at.new.noter × Goes g.D.Disk.told g.D.Disk.clock g.D.Disk.image g.D.Disk.faults subject said cell.node left.node × IsGiven g.D.Disk.told g.D.Disk.clock g.D.Disk.image g.D.Disk.faults subject c.args.piece.length cell.node left.node (option_map {T = Vec ℕ Global} (λ bytes. bytes.items) given) said))
    (λ (given : Option (Vec ℕ Global)). Gave g.D.Disk.told g.D.Disk.clock g.D.Disk.image g.D.Disk.faults g.K.Kept.stands g.N.Noter.noted g.N.Noter.knows subject c.args.piece.length c.args.dn (option_map {T = Vec ℕ Global} (λ bytes. bytes.items) given) c.args.noter.now c.read_at.new.noter)
    (λ given found. record {
      old = cell.node;
      new = left.node;
      member = ap (λ (v : CellView g.row.D.Denot g.row.K.Denot). v.node.id) c.deref_mut.ensures.value ∙ c.lock-cell.ensures;
      kept = (cell.kept, c.read_at.ensures.before.stood);
      left = (left.kept, (c.read_at.ensures.after.stood, c.read_at.ensures.knows));
      said = found.0;
      told_so = found.1.0;
      goes = found.1.1;
      given_so = found.1.2;
    }) c.read_at.ensures.given
