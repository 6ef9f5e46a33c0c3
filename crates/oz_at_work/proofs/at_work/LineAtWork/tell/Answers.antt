use Rattle.std.proofs.Common.{◌≡◌, [], Option, refl, sym, ap, ◌∙◌, subst}
use Rattle.oz_client.specs.declared.step.Step.{Step}
use Rattle.oz_client.specs.declared.step.Step.TheVariants as steps
use Rattle.oz_requests.specs.declared.request.AskId.{AskId}
use Rattle.oz_asker.specs.telling.Tells.{IsTold, MayTell}
use Rattle.oz_turn.specs.Seat.{mine_of, seen_of}
use Rattle.oz_at_work.specs.AtWork.{IsAtWork, IsNextFit, IsSaidAsKnown, MayBeTold, WorkView, last_of, left_of}
use Rattle.oz_at_work.proofs.Leaving.{has_left, told_works}
use Rattle.oz_at_work.proofs.Staying.{work_still}
use Rattle.oz_at_work.proofs.at_work.LineAtWork.tell.Goals as goal

pub tell-requires-clause-fits : goal.tell-requires-clause-fits
tell-requires-clause-fits g c coherent story begins all may =
    let O = g.O.Opened in
    let inside = c.self.inside in
    let seen = seen_of c.args.seat.now in
    let work : WorkView = record { line = inside.line.now; state = inside.steps; nodes = inside.nodes; asked = inside.asked; said = inside.said; next = inside.next; is_cut = inside.is_cut; gave_up = inside.gave_up; doubted = inside.doubted; refused = inside.refused; was_done = inside.was_done } in
    let at_work : IsAtWork O.coherent O.opening O.bytes O.script seen work =
    subst (IsAtWork O.coherent O.opening O.bytes O.script seen) (sym c.self.view_is) (c.requires.works coherent) in
    let fit : MayBeTold O.coherent O.opening O.bytes O.script seen work.line (last_of work.line work.asked) (IsSaidAsKnown work.gave_up work.said) [] c.in-Tell.answer (left_of work) =
    subst (IsNextFit O.coherent O.opening O.bytes O.script seen work) (sym c.in-Tell.ensures.value) at_work.next in
    fit.fits story begins all inside.said (λ gave. refl)
    (subst (λ (last : Option AskId). MayTell O.opening story work.line.client work.line.number last inside.said [] c.in-Tell.answer) c.last_of-last.ensures may)

pub put_off-requires-clause-works : goal.put_off-requires-clause-works
put_off-requires-clause-works g c coherent =
    let O = g.O.Opened in
    let inside = c.self.inside in
    let seen = seen_of c.args.seat.now in
    let later = seen_of c.tell.new.seat in
    let work : WorkView = record { line = inside.line.now; state = inside.steps; nodes = inside.nodes; asked = inside.asked; said = inside.said; next = inside.next; is_cut = inside.is_cut; gave_up = inside.gave_up; doubted = inside.doubted; refused = inside.refused; was_done = inside.was_done } in
    let at_work : IsAtWork O.coherent O.opening O.bytes O.script seen work =
    subst (IsAtWork O.coherent O.opening O.bytes O.script seen) (sym c.self.view_is) (c.requires.works coherent) in
    let same : steps.Tell c.in-Err.answer ≡ inside.next = ap steps.Tell c.in-Err.ensures.answer ∙ c.in-Tell.ensures.value in
    subst (λ (step : Step). IsAtWork O.coherent O.opening O.bytes O.script later (record work { next = step })) (sym same)
    (work_still O.coherent O.opening O.bytes O.script later seen c.in-Err.ensures.goes_on work at_work)

pub returns-in-Ok-clause-stays : goal.returns-in-Ok-clause-stays
returns-in-Ok-clause-stays g c =
    let O = g.O.Opened in
    let inside = c.self.inside in
    let seen = seen_of c.args.seat.now in
    let later = seen_of c.tell.new.seat in
    let work : WorkView = record { line = inside.line.now; state = inside.steps; nodes = inside.nodes; asked = inside.asked; said = inside.said; next = inside.next; is_cut = inside.is_cut; gave_up = inside.gave_up; doubted = inside.doubted; refused = inside.refused; was_done = inside.was_done } in
    let told = subst (λ (last : Option AskId). IsTold O.opening c.args.by work.line.client work.line.number last work.said [] c.in-Tell.answer seen (mine_of c.args.seat.now) later (mine_of c.tell.new.seat))
    c.last_of-last.ensures c.in-Ok.ensures.told in
    record {
      line = ap (λ (w : WorkView). w.line) c.self.view_is;
      works = λ coherent.
          let at_work : IsAtWork O.coherent O.opening O.bytes O.script seen work =
          subst (IsAtWork O.coherent O.opening O.bytes O.script seen) (sym c.self.view_is) (c.requires.works coherent) in
          subst (λ (step : Step). IsAtWork O.coherent O.opening O.bytes O.script later (record work { next = step })) (sym c.replace-next.ensures.after)
          (told_works O.coherent O.opening O.bytes O.script seen later (mine_of c.args.seat.now) (mine_of c.tell.new.seat) work c.args.by c.in-Tell.answer
          c.in-Ok.ensures.goes_on at_work (sym c.in-Tell.ensures.value) told);
      went_on = λ wrong. absurd cc;
    }

pub returns-in-Ok-clause-ended : goal.returns-in-Ok-clause-ended
returns-in-Ok-clause-ended g c ended coherent =
    let O = g.O.Opened in
    let inside = c.self.inside in
    let seen = seen_of c.args.seat.now in
    let later = seen_of c.tell.new.seat in
    let work : WorkView = record { line = inside.line.now; state = inside.steps; nodes = inside.nodes; asked = inside.asked; said = inside.said; next = inside.next; is_cut = inside.is_cut; gave_up = inside.gave_up; doubted = inside.doubted; refused = inside.refused; was_done = inside.was_done } in
    let at_work : IsAtWork O.coherent O.opening O.bytes O.script seen work =
    subst (IsAtWork O.coherent O.opening O.bytes O.script seen) (sym c.self.view_is) (c.requires.works coherent) in
    let told = subst (λ (last : Option AskId). IsTold O.opening c.args.by work.line.client work.line.number last work.said [] c.in-Tell.answer seen (mine_of c.args.seat.now) later (mine_of c.tell.new.seat))
    c.last_of-last.ensures c.in-Ok.ensures.told in
    has_left O.coherent O.opening O.bytes O.script seen later (mine_of c.args.seat.now) (mine_of c.tell.new.seat) work c.args.by c.in-Tell.answer
    c.in-Ok.ensures.goes_on at_work (sym c.in-Tell.ensures.value) told
