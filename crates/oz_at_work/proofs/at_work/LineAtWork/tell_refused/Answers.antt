use Rattle.std.proofs.Common.{List, Option, None, Some, sym, ap, ◌∙◌, subst}
use Rattle.std.proofs.lemmas.Option.{same_Some}
use Rattle.oz_requests.specs.declared.answer.Answer.{Answer}
use Rattle.oz_requests.specs.declared.answer.Answer.TheVariants as answers
use Rattle.oz_requests.specs.declared.request.AskId.{AskId}
use Rattle.oz_asker.specs.declared.telling.still.Still.{Still}
use Rattle.oz_asker.specs.telling.Tells.{IsTold, MayTell}
use Rattle.oz_turn.specs.Seat.{mine_of, seen_of}
use Rattle.oz_underway.specs.laws.Going.{begins_through}
use Rattle.oz_at_work.specs.declared.refused.Refused.{Refused}
use Rattle.oz_at_work.specs.AtWork.{HasGoneOn, HasLeft, IsAtWork, IsRefusalFit, MayBeTold, WorkView, last_of, left_of}
use Rattle.oz_at_work.proofs.Cutting.{cut_inside}
use Rattle.oz_at_work.proofs.Leaving.{told_left}
use Rattle.oz_at_work.proofs.Staying.{refusal_still, with_refused, work_still}
use Rattle.oz_at_work.proofs.at_work.LineAtWork.tell_refused.Goals as goal

pub tell-requires-clause-fits : goal.tell-requires-clause-fits
tell-requires-clause-fits g c coherent story begins all may =
    let O = g.O.Opened in
    let inside = c.self.inside in
    let seen = seen_of c.args.seat.now in
    let refused = c.in_ok-answer.field-0 in
    let work : WorkView = record { line = inside.line.now; state = inside.steps; nodes = inside.nodes; asked = inside.asked; said = inside.said; next = inside.next; is_cut = inside.is_cut; gave_up = inside.gave_up; doubted = inside.doubted; refused = inside.refused; was_done = inside.was_done } in
    let at_work : IsAtWork O.coherent O.opening O.bytes O.script seen work =
    subst (IsAtWork O.coherent O.opening O.bytes O.script seen) (sym c.self.view_is) (c.requires.works coherent) in
    let fit : MayBeTold O.coherent O.opening O.bytes O.script seen work.line (last_of work.line refused.asked) (λ said. Unit {0}) refused.still refused.answer None =
    subst (IsRefusalFit O.coherent O.opening O.bytes O.script seen work.line) (sym c.take.ensures.value ∙ c.in_ok-answer.was) at_work.refusal in
    fit.fits story begins all inside.said tt
    (subst (λ (stills : List Still). MayTell O.opening story work.line.client work.line.number (last_of work.line refused.asked) inside.said stills refused.answer) c.as_slice.ensures
    (subst (λ (last : Option AskId). MayTell O.opening story work.line.client work.line.number last inside.said c.as_slice.result.now refused.answer) c.last_of-last.ensures may))

pub put_off-requires-clause-works : goal.put_off-requires-clause-works
put_off-requires-clause-works g c coherent =
    let O = g.O.Opened in
    let inside = c.self.inside in
    let seen = seen_of c.args.seat.now in
    let later = seen_of c.tell.new.seat in
    let refused = c.in_ok-answer.field-0 in
    let work : WorkView = record { line = inside.line.now; state = inside.steps; nodes = inside.nodes; asked = inside.asked; said = inside.said; next = inside.next; is_cut = inside.is_cut; gave_up = inside.gave_up; doubted = inside.doubted; refused = inside.refused; was_done = inside.was_done } in
    let at_work : IsAtWork O.coherent O.opening O.bytes O.script seen work =
    subst (IsAtWork O.coherent O.opening O.bytes O.script seen) (sym c.self.view_is) (c.requires.works coherent) in
    let fit : IsRefusalFit O.coherent O.opening O.bytes O.script seen work.line (Some refused) =
    subst (IsRefusalFit O.coherent O.opening O.bytes O.script seen work.line) (sym c.take.ensures.value ∙ c.in_ok-answer.was) at_work.refusal in
    let still : MayBeTold O.coherent O.opening O.bytes O.script later work.line (last_of work.line refused.asked) (λ said. Unit {0}) refused.still refused.answer None =
    refusal_still O.coherent O.opening O.bytes O.script later seen c.in-Err.ensures.goes_on work.line (Some refused) fit in
    with_refused O.coherent O.opening O.bytes O.script later work (Some (record { answer = c.in-Err.answer; asked = refused.asked; still = refused.still }))
    (subst (λ (a : Answer). MayBeTold O.coherent O.opening O.bytes O.script later work.line (last_of work.line refused.asked) (λ said. Unit {0}) refused.still a None) (sym c.in-Err.ensures.answer) still)
    (work_still O.coherent O.opening O.bytes O.script later seen c.in-Err.ensures.goes_on work at_work)

pub returns-in-Ok-clause-stays : goal.returns-in-Ok-clause-stays
returns-in-Ok-clause-stays g c =
    let O = g.O.Opened in
    let inside = c.self.inside in
    let seen = seen_of c.args.seat.now in
    let work : WorkView = record { line = inside.line.now; state = inside.steps; nodes = inside.nodes; asked = inside.asked; said = inside.said; next = inside.next; is_cut = inside.is_cut; gave_up = inside.gave_up; doubted = inside.doubted; refused = inside.refused; was_done = inside.was_done } in
    cut_inside O (seen_of c.tell.new.seat) seen work c.args.self.now c.cut.new.self _ answers.OutOfMemory c.self.view_is c.in-Ok.ensures.goes_on tt c.cut.ensures
    c.requires.works

pub returns-in-Ok-clause-ended : goal.returns-in-Ok-clause-ended
returns-in-Ok-clause-ended g c ended coherent =
    let O = g.O.Opened in
    let inside = c.self.inside in
    let seen = seen_of c.args.seat.now in
    let later = seen_of c.tell.new.seat in
    let refused = c.in_ok-answer.field-0 in
    let work : WorkView = record { line = inside.line.now; state = inside.steps; nodes = inside.nodes; asked = inside.asked; said = inside.said; next = inside.next; is_cut = inside.is_cut; gave_up = inside.gave_up; doubted = inside.doubted; refused = inside.refused; was_done = inside.was_done } in
    let at_work : IsAtWork O.coherent O.opening O.bytes O.script seen work =
    subst (IsAtWork O.coherent O.opening O.bytes O.script seen) (sym c.self.view_is) (c.requires.works coherent) in
    let fit : IsRefusalFit O.coherent O.opening O.bytes O.script seen work.line (Some refused) =
    subst (IsRefusalFit O.coherent O.opening O.bytes O.script seen work.line) (sym c.take.ensures.value ∙ c.in_ok-answer.was) at_work.refusal in
    let told = subst (λ (stills : List Still). IsTold O.opening c.args.by work.line.client work.line.number (last_of work.line refused.asked) inside.said stills refused.answer seen (mine_of c.args.seat.now) later (mine_of c.tell.new.seat))
    c.as_slice.ensures
    (subst (λ (last : Option AskId). IsTold O.opening c.args.by work.line.client work.line.number last inside.said c.as_slice.result.now refused.answer seen (mine_of c.args.seat.now) later (mine_of c.tell.new.seat))
    c.last_of-last.ensures c.in-Ok.ensures.told) in
    subst (λ (w : WorkView). HasLeft O.coherent O.opening O.bytes O.script later w.line (left_of w)) (sym c.cut.ensures)
    (told_left O.coherent O.opening O.bytes O.script seen later (mine_of c.args.seat.now) (mine_of c.tell.new.seat) work.line (last_of work.line refused.asked) inside.said c.args.by refused.still refused.answer
    c.in-Ok.ensures.goes_on told (λ said. Unit {0}) None tt fit)

pub returns-in-Err-default-Moved-clause-stays : goal.returns-in-Err-default-Moved-clause-stays
returns-in-Err-default-Moved-clause-stays g c =
    let O = g.O.Opened in
    let inside = c.self.inside in
    let seen = seen_of c.args.seat.now in
    let later = seen_of c.tell.new.seat in
    let work : WorkView = record { line = inside.line.now; state = inside.steps; nodes = inside.nodes; asked = inside.asked; said = inside.said; next = inside.next; is_cut = inside.is_cut; gave_up = inside.gave_up; doubted = inside.doubted; refused = inside.refused; was_done = inside.was_done } in
    record {
      line = ap (λ (w : WorkView). w.line) c.self.view_is;
      works = λ coherent.
          let at_work : IsAtWork O.coherent O.opening O.bytes O.script seen work =
          subst (IsAtWork O.coherent O.opening O.bytes O.script seen) (sym c.self.view_is) (c.requires.works coherent) in
          subst (λ (refused : Option Refused). IsAtWork O.coherent O.opening O.bytes O.script later (record work { refused = refused })) (sym c.take.ensures.after)
          (with_refused O.coherent O.opening O.bytes O.script later work None tt
          (work_still O.coherent O.opening O.bytes O.script later seen c.tell.ensures.goes_on work at_work));
      went_on = λ wrong. absurd cc;
    }

pub returns-in-Err : goal.returns-in-Err
returns-in-Err g c = record {
  gone = record {
    ready = c.put_off.ensures.gone.ready;
    room = c.put_off.ensures.gone.room ∙ c.in-Err.ensures.room;
    goes_on = begins_through (seen_of c.put_off.new.seat) (seen_of c.tell.new.seat) (seen_of c.args.seat.now) c.put_off.ensures.gone.goes_on c.in-Err.ensures.goes_on;
  };
  stays = record {
    line = c.put_off.ensures.stays.line ∙ ap (λ (w : WorkView). w.line) c.self.view_is;
    works = c.put_off.ensures.stays.works;
    went_on = λ is. subst (λ (w : WorkView). HasGoneOn w c.put_off.new.self) c.self.view_is (c.put_off.ensures.stays.went_on (same_Some _ _ is));
  };
  tries = λ wrong. absurd cc;
  ended = λ is. absurd (c.put_off.ensures.unended (same_Some _ _ is));
}
