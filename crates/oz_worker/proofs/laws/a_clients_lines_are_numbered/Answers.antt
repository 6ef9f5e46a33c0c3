use Rattle.std.proofs.Common.{◌≤◌, [], length, arith}
use Rattle.std.proofs.lemmas.List.Elements.{All-contains}
use Rattle.oz_script.specs.declared.lines.script.Line.{Line}
use Rattle.oz_worker.proofs.Numbered.{placed}
use Rattle.oz_worker.proofs.laws.a_clients_lines_are_numbered.Goals as goal

pub returns : goal.returns
returns c script client place line numbered at =
    let it = placed client [] script.lines place line numbered.in_order at in
    let few = All-contains (λ (l : Line). l.client ≤ length script.clients) script.lines line numbered.known it.there in (
      record { there = it.there; of_client = it.its; of_number = omega (arith, it.number) },
      λ e. omega (arith, e, few, it.its, numbered.clients),
    )
