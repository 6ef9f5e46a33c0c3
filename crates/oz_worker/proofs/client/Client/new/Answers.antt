use Rattle.std.proofs.Common.{IfSome, ap, sym, subst, ◌∙◌}
use Rattle.std.specs.Prelude.{slice_get}
use Rattle.oz_script.specs.declared.lines.script.Script.{Script}
use Rattle.oz_worker.specs.ClientLines.{lines_of_client}
use Rattle.oz_worker.specs.Labels.{LabelMap}
use Rattle.oz_worker.specs.Served.{AreNoted}
use Rattle.oz_worker.proofs.Served.{first_noted}
use Rattle.oz_worker.proofs.client.Client.new.Goals as goal

pub returns-clause-served : goal.returns-clause-served
returns-clause-served g c seen =
    record {
      lines = c.in_ok-lines.ensures ∙ ap (λ (s : Script). lines_of_client s c.args.number) c.requires.script;
      next = tt;
      works = λ coherent. tt;
      labels = λ coherent.
          subst (λ (m : LabelMap). IfSome (slice_get (lines_of_client g.O.Opened.script c.args.number) 0) (AreNoted g.O.Opened.coherent g.O.Opened.opening g.O.Opened.bytes g.O.Opened.script seen m))
          (sym c.new.ensures)
          (first_noted g.O.Opened.coherent g.O.Opened.opening g.O.Opened.bytes g.O.Opened.script seen c.args.number c.requires.numbered);
    }
