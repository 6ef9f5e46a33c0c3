use Rattle.std.proofs.Common.{subst}
use Rattle.oz_at_work.specs.AtWork.{WorkView}
use Rattle.oz_at_work.specs.inner.Taken.{HasStepped, IsTakenUp}
use Rattle.oz_at_work.proofs.Taking.{come_stepped, come_taken, cut_taken}
use Rattle.oz_at_work.proofs.at_work.LineAtWork.take_up.Goals as goal

pub returns-in-Ok-clause-taken : goal.returns-in-Ok-clause-taken
returns-in-Ok-clause-taken c =
    let inside = c.self.inside in
    let work : WorkView = record { line = inside.line.now; state = inside.steps; nodes = inside.nodes; asked = inside.asked; said = inside.said; next = inside.next; is_cut = inside.is_cut; gave_up = inside.gave_up; doubted = inside.doubted; refused = inside.refused; was_done = inside.was_done } in
    subst (λ (w : WorkView). IsTakenUp w c.args.got c.args.asked c.args.said c.args.gave_up c.come_to.new.self) c.self.view_is
    (come_taken work c.next.new.self c.args.got c.in-Ok.next c.args.asked c.args.said c.args.gave_up c.come_to.new.self c.in-Ok.ensures.state c.in-Ok.ensures.is c.in-Ok.ensures.so c.come_to.ensures)

pub returns-in-Err-clause-taken : goal.returns-in-Err-clause-taken
returns-in-Err-clause-taken c =
    let inside = c.self.inside in
    let work : WorkView = record { line = inside.line.now; state = inside.steps; nodes = inside.nodes; asked = inside.asked; said = inside.said; next = inside.next; is_cut = inside.is_cut; gave_up = inside.gave_up; doubted = inside.doubted; refused = inside.refused; was_done = inside.was_done } in
    subst (λ (w : WorkView). IsTakenUp w c.args.got c.args.asked c.args.said c.args.gave_up c.cut-in-Err.new.self) c.self.view_is
    (cut_taken work c.next.new.self c.args.got c.args.asked c.args.said c.args.gave_up c.cut-in-Err.new.self c.in-Err.ensures.err c.cut-in-Err.ensures)

pub returns-in-Ok-clause-stepped : goal.returns-in-Ok-clause-stepped
returns-in-Ok-clause-stepped c =
    let inside = c.self.inside in
    let work : WorkView = record { line = inside.line.now; state = inside.steps; nodes = inside.nodes; asked = inside.asked; said = inside.said; next = inside.next; is_cut = inside.is_cut; gave_up = inside.gave_up; doubted = inside.doubted; refused = inside.refused; was_done = inside.was_done } in
    subst (λ (w : WorkView). HasStepped w c.args.got c.args.asked c.args.said c.args.gave_up c.come_to.new.self) c.self.view_is
    (come_stepped work c.next.new.self c.args.got c.in-Ok.next c.args.asked c.args.said c.args.gave_up c.come_to.new.self c.in-Ok.ensures.state c.in-Ok.ensures.is c.in-Ok.ensures.so c.come_to.ensures)
