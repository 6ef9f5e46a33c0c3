use Rattle.std.proofs.Common.{true, None, sym, subst}
use Rattle.oz_requests.specs.declared.answer.Answer.TheVariants as answers
use Rattle.oz_turn.specs.Seat.{mine_of, seen_of}
use Rattle.oz_at_work.specs.AtWork.{HasLeft, IsAtWork, WorkView, left_of}
use Rattle.oz_at_work.specs.inner.Commanded.{IsCommandOf, IsDoneDue}
use Rattle.oz_at_work.proofs.Commands.{done_fits, done_left, due_fits}
use Rattle.oz_at_work.proofs.Cutting.{cut_inside}
use Rattle.oz_at_work.proofs.Staying.{with_done, work_still}
use Rattle.oz_at_work.proofs.at_work.LineAtWork.tell_of.Goals as goal

pub tell_done-requires-clause-fits : goal.tell_done-requires-clause-fits
tell_done-requires-clause-fits g c coherent story begins all may =
    let O = g.O.Opened in
    let inside = c.self.inside in
    let seen = seen_of c.args.seat.now in
    let work : WorkView = record { line = inside.line.now; state = inside.steps; nodes = inside.nodes; asked = inside.asked; said = inside.said; next = inside.next; is_cut = inside.is_cut; gave_up = inside.gave_up; doubted = inside.doubted; refused = inside.refused; was_done = inside.was_done } in
    let at_work : IsAtWork O.coherent O.opening O.bytes O.script seen work =
    subst (IsAtWork O.coherent O.opening O.bytes O.script seen) (sym c.self.view_is) (c.requires.works coherent) in
    let due : IsDoneDue O.coherent O.opening O.bytes O.script seen work.line c.args.dn =
    subst (λ (w : WorkView). IsDoneDue O.coherent O.opening O.bytes O.script seen w.line c.args.dn) (sym c.self.view_is) (c.requires.due coherent) in
    due_fits O.coherent O.opening O.bytes O.script story seen work.line _ begins at_work.begun (due story begins all)

pub put_off-requires-clause-works : goal.put_off-requires-clause-works
put_off-requires-clause-works g c coherent =
    let O = g.O.Opened in
    let inside = c.self.inside in
    let seen = seen_of c.args.seat.now in
    let later = seen_of c.tell_done.new.seat in
    let work : WorkView = record { line = inside.line.now; state = inside.steps; nodes = inside.nodes; asked = inside.asked; said = inside.said; next = inside.next; is_cut = inside.is_cut; gave_up = inside.gave_up; doubted = inside.doubted; refused = inside.refused; was_done = inside.was_done } in
    let at_work : IsAtWork O.coherent O.opening O.bytes O.script seen work =
    subst (IsAtWork O.coherent O.opening O.bytes O.script seen) (sym c.self.view_is) (c.requires.works coherent) in
    let its : IsCommandOf work.line c.args.dn c.args.done = subst (λ (w : WorkView). IsCommandOf w.line c.args.dn c.args.done) (sym c.self.view_is) c.requires.commands in
    let due : IsDoneDue O.coherent O.opening O.bytes O.script seen work.line c.args.dn =
    subst (λ (w : WorkView). IsDoneDue O.coherent O.opening O.bytes O.script seen w.line c.args.dn) (sym c.self.view_is) (c.requires.due coherent) in
    work_still O.coherent O.opening O.bytes O.script later seen c.in-Err.ensures.goes_on (record work { was_done = true })
    (with_done O.coherent O.opening O.bytes O.script seen work (done_fits O.coherent O.opening O.bytes O.script seen work.line c.args.dn c.args.done its due) at_work)

pub returns-in-Ok-clause-stays : goal.returns-in-Ok-clause-stays
returns-in-Ok-clause-stays g c =
    let O = g.O.Opened in
    let inside = c.self.inside in
    let work : WorkView = record { line = inside.line.now; state = inside.steps; nodes = inside.nodes; asked = inside.asked; said = inside.said; next = inside.next; is_cut = inside.is_cut; gave_up = inside.gave_up; doubted = inside.doubted; refused = inside.refused; was_done = inside.was_done } in
    cut_inside O (seen_of c.tell_done.new.seat) (seen_of c.args.seat.now) work c.args.self.now c.cut.new.self _ answers.OutOfMemory c.self.view_is c.in-Ok.ensures.goes_on tt c.cut.ensures
    c.requires.works

pub returns-in-Ok-clause-ended : goal.returns-in-Ok-clause-ended
returns-in-Ok-clause-ended g c ended coherent =
    let O = g.O.Opened in
    let inside = c.self.inside in
    let seen = seen_of c.args.seat.now in
    let later = seen_of c.tell_done.new.seat in
    let work : WorkView = record { line = inside.line.now; state = inside.steps; nodes = inside.nodes; asked = inside.asked; said = inside.said; next = inside.next; is_cut = inside.is_cut; gave_up = inside.gave_up; doubted = inside.doubted; refused = inside.refused; was_done = inside.was_done } in
    let its : IsCommandOf work.line c.args.dn c.args.done = subst (λ (w : WorkView). IsCommandOf w.line c.args.dn c.args.done) (sym c.self.view_is) c.requires.commands in
    let left : HasLeft O.coherent O.opening O.bytes O.script later work.line None =
    done_left O.coherent O.opening O.bytes O.script seen later (mine_of c.args.seat.now) (mine_of c.tell_done.new.seat) work.line c.args.dn c.args.done c.args.by work.said _ its c.in-Ok.ensures.told in
    subst (λ (w : WorkView). HasLeft O.coherent O.opening O.bytes O.script later w.line (left_of w)) (sym c.cut.ensures) left
