use Rattle.std.proofs.Common.{List, Some, sym, ◌∙◌, subst}
use Rattle.oz_requests.specs.declared.answer.Answer.TheVariants as answers
use Rattle.oz_asker.specs.declared.telling.still.Still.{Still}
use Rattle.oz_at_work.specs.AtWork.{IsAtWork, WorkView}
use Rattle.oz_at_work.specs.inner.Read.{WasMissed}
use Rattle.oz_at_work.proofs.Cutting.{cut_so}
use Rattle.oz_at_work.proofs.Getting.{missed_works}
use Rattle.oz_at_work.proofs.at_work.LineAtWork.miss.Goals as goal

pub returns-in_default-clause-works : goal.returns-in_default-clause-works
returns-in_default-clause-works g c coherent seen was =
    let O = g.O.Opened in
    cut_so O.coherent O.opening O.bytes O.script seen was.before c.args.self.now c.cut.new.self _
    answers.OutOfMemory coherent was.goes_on tt c.cut.ensures was.at_work

pub returns-clause-works : goal.returns-clause-works
returns-clause-works g c coherent seen was =
    let O = g.O.Opened in
    let inside = c.self.inside in
    let work : WorkView = record { line = inside.line.now; state = inside.steps; nodes = inside.nodes; asked = inside.asked; said = inside.said; next = inside.next; is_cut = inside.is_cut; gave_up = inside.gave_up; doubted = inside.doubted; refused = inside.refused; was_done = inside.was_done } in
    let so : WasMissed O.coherent O.opening O.bytes O.script seen work c.args.piece c.args.lacks =
    subst (λ (w : WorkView). WasMissed O.coherent O.opening O.bytes O.script seen w c.args.piece c.args.lacks) (sym c.self.view_is) was in
    subst (λ (l : List Still). IsAtWork O.coherent O.opening O.bytes O.script seen
    (record work { doubted = c.of-self-inside.result; refused = Some (record { answer = answers.NoReplica c.in-Ok.number c.args.piece.block; asked = work.asked; still = l }) })) (sym c.of.ensures)
    (missed_works O.coherent O.opening O.bytes O.script seen work c.args.piece c.args.lacks coherent so c.in-Ok.number (c.in-Ok.ensures.1 ∙ c.pieces_read.ensures) c.of-self-inside.result c.of-self-inside.ensures)
