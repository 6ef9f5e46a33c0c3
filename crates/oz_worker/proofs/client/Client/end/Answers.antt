use Rattle.std.proofs.Common.{ap, ◌∙◌, refl, arith}
use Rattle.oz_at_work.specs.AtWork.{left_of}
use Rattle.oz_script.specs.declared.lines.script.Line.{Line}
use Rattle.oz_steps.specs.declared.label.Label.{Label}
use Rattle.oz_worker.specs.Labels.{noted}
use Rattle.std.specs.Prelude.{Option}
use Rattle.oz_worker.proofs.Served.{ended, told_small}
use Rattle.oz_worker.proofs.client.Client.end.Goals as goal

pub overflow_add-self : goal.overflow_add-self
overflow_add-self g c =
    let small = told_small g.O.Opened.script c.args.self.now.number c.args.self.now.told c.args.work.line c.requires.numbered c.requires.next in
    omega (arith, small)

pub returns : goal.returns
returns g c = record {
  served = λ seen it has.
      ended g.O.Opened.coherent g.O.Opened.opening g.O.Opened.bytes g.O.Opened.script seen c.args.self.now c.args.work.line c.note_left.new.self.labels (left_of c.args.work)
      c.requires.numbered c.requires.none c.requires.next
      (c.in-Ok.ensures.ok
      ∙ ap (λ (l : Line). noted c.args.self.now.labels.labels l.command c.into_label-left.result) c.line.ensures
      ∙ ap (λ (l : Option Label). noted c.args.self.now.labels.labels c.args.work.line.command l) c.into_label-left.ensures)
      it has;
  number = refl;
}
