use Rattle.std.proofs.Common.{◌≡◌, inl, inr, ℕ, ◌+◌, false, List, None, Some, refl, sym, ap, ◌∙◌, subst}
use Rattle.oz_core.specs.Steps.{was_told_ok}
use Rattle.oz_line_blocks.specs.granting.Granting.{IsDueWhileStill, IsKnownThen, WasEmpty}
use Rattle.oz_line_blocks.specs.declared.granting.granting.Granting.TheVariants as grantings
use Rattle.oz_requests.specs.declared.answer.Answer.TheVariants as answers
use Rattle.oz_requests.specs.declared.request.AskId.{AskId}
use Rattle.oz_asker.specs.declared.telling.still.Still.{Still}
use Rattle.oz_turn.specs.Seat.{seen_of}
use Rattle.oz_underway.specs.laws.Going.{begins_itself}
use Rattle.oz_at_work.specs.AtWork.{IsAtWork, MayBeTold, WorkView, id_of, last_of}
use Rattle.oz_at_work.specs.inner.Short.{IsShort}
use Rattle.oz_at_work.proofs.Cutting.{cut_stays}
use Rattle.oz_at_work.proofs.Refusing.{made_short, refused_told, was_empty}
use Rattle.oz_at_work.proofs.Staying.{with_refused, work_still}
use Rattle.oz_at_work.proofs.at_work.LineAtWork.be_granted.Goals as goal

pub returns-in_default-clause-stays : goal.returns-in_default-clause-stays
returns-in_default-clause-stays g c =
    let O = g.O.Opened in
    let seen = seen_of c.args.seat.now in
    cut_stays O seen seen c.args.self.now c.cut-in_default.new.self _ answers.OutOfMemory (begins_itself seen) tt c.cut-in_default.ensures c.requires.works

pub grant_for-requires-clause-empty : goal.grant_for-requires-clause-empty
grant_for-requires-clause-empty g c coherent =
    let O = g.O.Opened in
    let seen = seen_of c.args.seat.now in
    let wanted = c.in-Some.wanted in
    subst (λ (i : AskId). WasEmpty O.opening seen c.args.place i wanted.stripe wanted.exclude.now) (sym c.in-Some.ensures.id)
    (was_empty O.opening seen c.args.self.now c.args.place wanted.stripe wanted.exclude.now (c.requires.short coherent) c.in-Some.ensures.wants c.requires.reached)

pub grant_for-requires-clause-made : goal.grant_for-requires-clause-made
grant_for-requires-clause-made g c coherent story begins all =
    let O = g.O.Opened in
    let seen = seen_of c.args.seat.now in
    let wanted = c.in-Some.wanted in
    made_short O.coherent O.opening O.bytes O.script seen c.args.self.now wanted.stripe wanted.exclude.now coherent (c.requires.works coherent) (c.requires.short coherent)
    c.in-Some.ensures.wants story begins all

pub returns-in-Ok-Granted : goal.returns-in-Ok-Granted
returns-in-Ok-Granted g c =
    let O = g.O.Opened in
    record {
      gone = record { ready = c.grant_for.ensures.looked.ready; room = c.grant_for.ensures.looked.room; goes_on = c.grant_for.ensures.looked.goes_on };
      stays = record {
        line = refl;
        works = λ coherent. work_still O.coherent O.opening O.bytes O.script (seen_of c.grant_for.new.seat) (seen_of c.args.seat.now)
            c.grant_for.ensures.looked.goes_on c.args.self.now (c.requires.works coherent);
        went_on = λ wrong. absurd cc;
      };
      same = λ none. refl;
      unended = λ wrong. cc;
    }

pub returns-in-Ok-Refused-clause-stays : goal.returns-in-Ok-Refused-clause-stays
returns-in-Ok-Refused-clause-stays g c = record {
  line = ap (λ (w : WorkView). w.line) c.self.view_is;
  works = λ coherent.
      let O = g.O.Opened in
      let inside = c.self.inside in
      let seen = seen_of c.args.seat.now in
      let later = seen_of c.grant_for.new.seat in
      let wanted = c.in-Some.wanted in
      let answer = c.in-Ok-Refused.answer in
      let still = c.in-Ok-Refused.still in
      let work : WorkView = record { line = inside.line.now; state = inside.steps; nodes = inside.nodes; asked = inside.asked; said = inside.said; next = inside.next; is_cut = inside.is_cut; gave_up = inside.gave_up; doubted = inside.doubted; refused = inside.refused; was_done = inside.was_done } in
      let at_work : IsAtWork O.coherent O.opening O.bytes O.script seen work =
      subst (IsAtWork O.coherent O.opening O.bytes O.script seen) (sym c.self.view_is) (c.requires.works coherent) in
      let short : IsShort O.opening seen work = subst (IsShort O.opening seen) (sym c.self.view_is) (c.requires.short coherent) in
      let id : wanted.id ≡ id_of work.line (work.asked + 1) = c.in-Some.ensures.id ∙ ap (λ (w : WorkView). id_of w.line (w.asked + 1)) (sym c.self.view_is) in
      let known : IsKnownThen O.coherent O.opening O.bytes O.script later c.args.place wanted.id wanted.stripe (grantings.Refused answer still) =
      rw (c.in-Ok-Refused.is, c.in-Ok-Refused.field-0-is) at c.grant_for.ensures.known in
      let due = subst (λ (i : AskId). IsDueWhileStill O.coherent O.opening O.bytes O.script later i answer still) id (known coherent) in
      let not_ok : was_told_ok (Some answer) ≡ false = sym c.is_ok.ensures ∙ c.if-not-is_ok.true in
      let fits = refused_told O.coherent O.opening O.bytes O.script later seen work still answer coherent c.grant_for.ensures.looked.goes_on at_work short due not_ok in
      let step : wanted.id.step ≡ work.asked + 1 = ap (λ (i : AskId). i.step) id in
      with_refused O.coherent O.opening O.bytes O.script later work _
      (subst (λ (l : List Still). MayBeTold O.coherent O.opening O.bytes O.script later work.line (last_of work.line wanted.id.step) (λ said. Unit {0}) l answer None) (sym c.two.ensures)
      (subst (λ (n : ℕ). MayBeTold O.coherent O.opening O.bytes O.script later work.line (last_of work.line n) (λ said. Unit {0}) still answer None) (sym step) fits))
      (work_still O.coherent O.opening O.bytes O.script later seen c.grant_for.ensures.looked.goes_on work at_work);
  went_on = λ went. inr (inl (inr (inl refl)));
}

pub returns-in-Ok-Refused-2-clause-stays : goal.returns-in-Ok-Refused-2-clause-stays
returns-in-Ok-Refused-2-clause-stays g c =
    let O = g.O.Opened in
    let seen = seen_of c.args.seat.now in
    cut_stays O (seen_of c.grant_for.new.seat) seen c.args.self.now c.cut-in-Ok-Refused-2.new.self _ answers.OutOfMemory c.grant_for.ensures.looked.goes_on tt c.cut-in-Ok-Refused-2.ensures c.requires.works
