use Rattle.std.proofs.Common.{false, None, subst, sym}
use Rattle.oz_line_blocks.specs.declared.reading.lack.Doubted.{Doubted}
use Rattle.oz_at_work.specs.AtWork.{IsAtWork}
use Rattle.oz_at_work.proofs.Stepping.{begin_so}
use Rattle.oz_at_work.proofs.at_work.LineAtWork.begin.Goals as goal

pub returns-clause-works : goal.returns-clause-works
returns-clause-works g c coherent seen all may =
    let O = g.O.Opened in
    subst
    (λ (d : Doubted). IsAtWork O.coherent O.opening O.bytes O.script seen
    (record { line = c.args.line.now; state = c.next.new.self; nodes = c.args.nodes; asked = 0; said = 0; next = c.in_ok-next.next; is_cut = false; gave_up = false; doubted = d; refused = None; was_done = false }))
    (sym c.none.ensures)
    (begin_so O.coherent O.opening O.bytes O.script seen c.args.line.now c.args.nodes _ c.in_ok-steps.steps c.next.new.self c.in_ok-next.next c.requires.opened coherent may all
    c.in_ok-steps.ensures c.in_ok-next.ensures.state c.in_ok-next.ensures.is c.in_ok-next.ensures.so)
