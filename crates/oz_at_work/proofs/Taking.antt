-- A line that takes up what came back.
use Rattle.std.proofs.Common.{◌≡◌, ⊎_elim, inl, inr, ℕ, ◌+◌, ◌<◌, Bool, None, Some, refl, sym, ap, ◌∙◌, subst}
use Rattle.oz_client.specs.declared.progress.Progress.{Progress}
use Rattle.oz_client.specs.declared.step.Got.{Got}
use Rattle.oz_client.specs.declared.step.Got.TheVariants as gots
use Rattle.oz_client.specs.declared.step.Step.{Step}
use Rattle.oz_client.specs.LineState.{LineState, progress_after, state_after}
use Rattle.oz_client.specs.Onward.{IsNext}
use Rattle.oz_client.specs.Stories.{IsStepEverywhere}
use Rattle.oz_requests.specs.declared.answer.Answer.TheVariants as answers
use Rattle.oz_at_work.specs.AtWork.{HasGoneOn, IsTelling, WorkView}
use Rattle.oz_at_work.specs.inner.Replied.{cut_with}
use Rattle.oz_at_work.specs.inner.Taken.{HasStepped, IsTakenUp, come_to}

pub nodes_stay : (progress : Progress) (got : Got) → (progress_after progress got).nodes ≡ progress.nodes
nodes_stay progress (gots.Read None) = refl
nodes_stay progress (gots.Read (Some bytes)) = refl
nodes_stay progress got = refl

-- its steps can't go on
pub cut_taken : (before : WorkView) (state : LineState) (got : Got) (asked said : ℕ) (gave_up : Bool) (after : WorkView) → state ≡ before.state
    → after ≡ cut_with (record before { state = state }) asked answers.OutOfMemory → IsTakenUp before got asked said gave_up after
cut_taken before state got asked said gave_up after same is =
    inr (record { state = state; command = ap (λ (s : LineState). s.command) same; nodes = ap (λ (s : LineState). s.progress.nodes) same; is = is })

-- they go on
pub come_stepped : (before : WorkView) (state : LineState) (got : Got) (step : Step) (asked said : ℕ) (gave_up : Bool) (after : WorkView) → state ≡ state_after before.state got step
    → IsNext before.state.command state.progress got step → IsStepEverywhere before.state.command state.progress got step
    → after ≡ come_to (record before { state = state }) asked said gave_up step → HasStepped before got asked said gave_up after
come_stepped before state got step asked said gave_up after same next so is =
    let progress : after.state.progress ≡ state.progress = ap (λ (w : WorkView). w.state.progress) is in
    record {
      step = step;
      next = subst (λ (p : Progress). IsNext before.state.command p got step) (sym progress) next;
      so = subst (λ (p : Progress). IsStepEverywhere before.state.command p got step) (sym progress) so;
      is = is ∙ ap (λ (s : LineState). come_to (record before { state = s }) asked said gave_up step) same;
    }

pub come_taken : (before : WorkView) (state : LineState) (got : Got) (step : Step) (asked said : ℕ) (gave_up : Bool) (after : WorkView) → state ≡ state_after before.state got step
    → IsNext before.state.command state.progress got step → IsStepEverywhere before.state.command state.progress got step
    → after ≡ come_to (record before { state = state }) asked said gave_up step → IsTakenUp before got asked said gave_up after
come_taken before state got step asked said gave_up after same next so is = inl (come_stepped before state got step asked said gave_up after same next so is)

-- ---- what that is

pub taken_line : (before : WorkView) (got : Got) (asked said : ℕ) (gave_up : Bool) (after : WorkView) → IsTakenUp before got asked said gave_up after → after.line ≡ before.line
taken_line before got asked said gave_up after taken = ⊎_elim
    (λ stepped. ap (λ (w : WorkView). w.line) stepped.is)
    (λ stopped. ap (λ (w : WorkView). w.line) stopped.is)
    taken

pub reply_goes_on : (before : WorkView) (got : Got) (asked said : ℕ) (gave_up : Bool) (after : WorkView) → asked ≡ before.asked + 1
    → IsTakenUp before got asked said gave_up after → HasGoneOn before after
reply_goes_on before got asked said gave_up after more taken = ⊎_elim
    (λ stepped. inl (ap (λ (w : WorkView). w.asked) stepped.is ∙ more))
    (λ stopped. inl (ap (λ (w : WorkView). w.asked) stopped.is ∙ more))
    taken

pub written_goes_on : (before : WorkView) (got : Got) (asked said : ℕ) (gave_up : Bool) (after : WorkView) → before.said < said
    → IsTakenUp before got asked said gave_up after → HasGoneOn before after
written_goes_on before got asked said gave_up after more taken = ⊎_elim
    (λ stepped. inr (inr (inl (subst (λ (n : ℕ). before.said < n) (sym (ap (λ (w : WorkView). w.said) stepped.is)) more))))
    (λ stopped. inr (inl (inl (subst (λ (w : WorkView). IsTelling w.next) (sym stopped.is) tt))))
    taken
