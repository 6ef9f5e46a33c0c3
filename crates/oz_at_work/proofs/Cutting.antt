-- A line that is told something else than its steps say.
use Rattle.std.proofs.Common.{◌≡◌, ◌≢◌, inl, inr, ℕ, true, false, List, [], ◌∷◌, ◌++◌, length, None, Some, refl, sym, ap, ◌∙◌, subst, cond, ◌==◌, Bool, is_some}
use Rattle.std.proofs.lemmas.Bool.{eqb-true, false≢true}
use Rattle.oz_asker.specs.laws.Halts.{late_means_halted}
use Rattle.oz_buffer.specs.declared.opened.Opened.{Ghosts as Run}
use Rattle.oz_buffer.specs.Buffer.{AllFollow, Follows}
use Rattle.oz_command.specs.declared.command.AdminCommand.TheVariants as admin
use Rattle.oz_command.specs.declared.command.Command.{Command}
use Rattle.oz_command.specs.declared.command.Command.TheVariants as commands
use Rattle.oz_core.specs.declared.event.Event.{Event}
use Rattle.oz_core.specs.declared.opening.Opening.{Opening}
use Rattle.oz_core.specs.Asks.{last_ask}
use Rattle.oz_core.specs.Contents.{OpeningBytes}
use Rattle.oz_core.specs.Due.{IsDue, ManagerHadStopped}
use Rattle.oz_core.specs.Manager.{asked_late}
use Rattle.oz_core.specs.Steps.{is_open_at, was_told_ok}
use Rattle.oz_script.specs.declared.lines.script.Line.{Line}
use Rattle.oz_script.specs.declared.lines.script.Script.{Script}
use Rattle.oz_requests.specs.declared.answer.Answer.{Answer}
use Rattle.oz_requests.specs.declared.answer.Answer.TheVariants as answers
use Rattle.oz_asker.specs.telling.Tells.{HadStopped, MayTell, told_event}
use Rattle.oz_asker.specs.telling.laws.Told.{told_now}
use Rattle.oz_turn.specs.Told.{BeginsWith}
use Rattle.oz_underway.specs.laws.Labels.{open_as_told, open_still}
use Rattle.oz_underway.specs.laws.Starting.{started_still}
use Rattle.oz_at_work.specs.AtWork.{HasGoneOn, IsAtWork, IsLabelOf, IsStarted, IsTelling, MayBeTold, WasSaid, WorkView, id_of, last_of}
use Rattle.oz_at_work.specs.Part.{IsAtWorkIn, StaysAtWork}
use Rattle.oz_at_work.specs.inner.Replied.{IsOfEnd, cut_with}
use Rattle.oz_at_work.proofs.Staying.{begun_still, said_was}

-- nothing is left where the label isn't open
pub label_none : (story : List Event) (line : Line) (command : Command) → is_open_at story line ≡ false → IsLabelOf story line command None
label_none story line (commands.KeyOpen name volume bucket key payload) shut = shut
label_none story line command shut = tt

-- who is cut has gone on
pub cut_goes_on : (before work new : WorkView) (asked : ℕ) (answer : Answer) → new ≡ cut_with work asked answer → HasGoneOn before new
cut_goes_on before work new asked answer is = inr (inl (inl (subst (λ (w : WorkView). IsTelling w.next) (sym is) tt)))

end_not_ok : (asked : ℕ) (answer : Answer) → IsOfEnd asked answer → was_told_ok (Some answer) ≡ false
end_not_ok asked (answers.Ok values) of_end = absurd of_end
end_not_ok asked answer of_end = refl

pub some_last : (line : Line) (asked : ℕ) → asked ≢ 0 → last_of line asked ≡ Some (id_of line asked)
some_last line asked some = by (asked == 0) refl
  where
    by : (t : Bool) → (asked == 0) ≡ t → cond t None (Some (id_of line asked)) ≡ Some (id_of line asked)
    by true is = absurd (some (eqb-true asked 0 is))
    by false is = refl

-- the manager had halted when the line asked last
stopped_due : (opening : Opening) (story : List Event) (line : Line) (asked : ℕ) → last_ask line.client line.number story ≡ Some (id_of line asked)
    → asked_late (id_of line asked) story ≡ true → (command : Command) → ManagerHadStopped story line command
stopped_due opening story line asked last late (commands.Admin admin.Drain) =
    λ none. false≢true (sym (ap is_some none) ∙ late_means_halted (id_of line asked) story late)
stopped_due opening story line asked last late command = (id_of line asked, last, late)

end_due : (opening : Opening) (bytes : OpeningBytes) (script : Script) (story : List Event) (line : Line) (asked : ℕ) (said : ℕ) (answer : Answer) → IsOfEnd asked answer
    → MayTell opening story line.client line.number (last_of line asked) said [] answer → IsDue opening bytes script story line answer
end_due opening bytes script story line asked said answers.OutOfMemory of_end may = tt
end_due opening bytes script story line asked said answers.Unacknowledged of_end may = may.cause
end_due opening bytes script story line asked said answers.ManagerStopped of_end may =
    let is = some_last line asked of_end in
    stopped_due opening story line asked (may.asked ∙ is) (subst (HadStopped story) is may.cause) line.command
end_due opening bytes script story line asked said answer of_end may = absurd of_end

module _ (Coherent : Type 0) (opening : Opening) (bytes : OpeningBytes) (script : Script) where
  pub told_stays : (story before : List Event) (seat : ℕ) (line : Line) (answer : Answer) → Coherent → AllFollow (Follows Coherent opening bytes script) [] story
      → BeginsWith story (before ++ told_event seat line.client line.number answer ∷ []) → is_open_at story line ≡ was_told_ok (Some answer)
  told_stays story before seat line answer coherent all begins =
      open_still Coherent opening bytes script line story (before ++ told_event seat line.client line.number answer ∷ []) coherent all begins
      (told_now before seat line.client line.number answer)
      ∙ open_as_told before seat line answer

  end_fits : (seen : List Event) (line : Line) (asked : ℕ) (MaySay : ℕ → Type 0) (answer : Answer) → Coherent → IsStarted script seen line → IsOfEnd asked answer
      → MayBeTold Coherent opening bytes script seen line (last_of line asked) MaySay [] answer None
  end_fits seen line asked MaySay answer coherent begun of_end = record {
    fits = λ story begins all said as_said may. record {
      line = line;
      its = record { there = begun.there; of_client = refl; of_number = refl };
      started = started_still story seen line begins begun.started;
      due = end_due opening bytes script story line asked said answer of_end may;
    };
    leaves = λ story begins all before seat said from as_said may behind.
        label_none story line line.command (told_stays story before seat line answer coherent all behind ∙ end_not_ok asked answer of_end);
  }

  -- whatever comes next, a line may be told such an answer
  pub cut_fits : (seen : List Event) (work : WorkView) (asked : ℕ) (answer : Answer) → Coherent → IsOfEnd asked answer → IsStarted script seen work.line
      → work.state.command ≡ work.line.command → work.state.progress.nodes ≡ work.nodes → work.nodes ≡ length opening.nodes → WasSaid seen work.line work.said
      → IsAtWork Coherent opening bytes script seen (cut_with work asked answer)
  cut_fits seen work asked answer coherent of_end begun does nodes opened said = record {
    begun = begun;
    does = does;
    nodes = nodes;
    opened = opened;
    said = said;
    next = end_fits seen work.line asked _ answer coherent begun of_end;
    refusal = tt;
    done = λ wrong. absurd (false≢true wrong);
  }

  pub cut_so : (later seen : List Event) (work new : WorkView) (asked : ℕ) (answer : Answer) → Coherent → BeginsWith later seen → IsOfEnd asked answer
      → new ≡ cut_with work asked answer
      → IsAtWork Coherent opening bytes script seen work → IsAtWork Coherent opening bytes script later new
  cut_so later seen work new asked answer coherent begins of_end is at_work =
      subst (IsAtWork Coherent opening bytes script later) (sym is)
      (cut_fits later work asked answer coherent of_end (begun_still script later seen work.line begins at_work.begun) at_work.does at_work.nodes at_work.opened
      (said_was later seen work.line work.said begins at_work.said))

-- who is told such an answer next stays at work
pub cut_stays : {O : Type 0} (run : Run O) (later seen : List Event) (work new : WorkView) (asked : ℕ) (answer : Answer) {Does : Type 0} → BeginsWith later seen
    → IsOfEnd asked answer → new ≡ cut_with work asked answer → IsAtWorkIn run seen work → StaysAtWork run later Does work new
cut_stays run later seen work new asked answer begins of_end is works = record {
  line = ap (λ (w : WorkView). w.line) is;
  works = λ coherent. cut_so run.coherent run.opening run.bytes run.script later seen work new asked answer coherent begins of_end is (works coherent);
  went_on = λ does. cut_goes_on work work new asked answer is;
}

-- so does who was the same inside
pub cut_inside : {O : Type 0} (run : Run O) (later seen : List Event) (inside work new : WorkView) (asked : ℕ) (answer : Answer) {Does : Type 0} → inside ≡ work
    → BeginsWith later seen → IsOfEnd asked answer → new ≡ cut_with inside asked answer → IsAtWorkIn run seen work → StaysAtWork run later Does work new
cut_inside run later seen inside work new asked answer same begins of_end is works =
    cut_stays run later seen work new asked answer begins of_end (is ∙ ap (λ (w : WorkView). cut_with w asked answer) same) works
