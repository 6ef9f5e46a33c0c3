-- For private calls: a line that goes on with what came back.
use Rattle.std.specs.Prelude.{◌≡◌, ◌⊎◌, ℕ, Bool, false, true, None}
use Rattle.oz_client.specs.declared.step.Got.{Got}
use Rattle.oz_client.specs.declared.step.Step.{Step}
use Rattle.oz_client.specs.LineState.{LineState, is_fit, state_after}
use Rattle.oz_client.specs.Onward.{IsNext}
use Rattle.oz_client.specs.Stories.{IsStepEverywhere}
use Rattle.oz_line_blocks.specs.reading.Lacks.{none_doubted}
use Rattle.oz_requests.specs.declared.answer.Answer.TheVariants as answers
use Rattle.oz_at_work.specs.AtWork.{WorkView}
use Rattle.oz_at_work.specs.declared.onward.Untaken.{Untaken}
use Rattle.oz_at_work.specs.declared.onward.Untaken.TheVariants as reasons
use Rattle.oz_at_work.specs.inner.Replied.{cut_with}

-- This comes next by its steps, once it has asked so often, so often something was said of its blocks, and one was given
-- up or not. Of the block that it reads then no member was doubted yet.
abbrev pub come_to : WorkView → ℕ → ℕ → Bool → Step → WorkView
come_to work asked said gave_up step = record work {
  asked = asked;
  said = said;
  next = step;
  is_cut = false;
  gave_up = gave_up;
  doubted = none_doubted;
  refused = None;
  was_done = false;
}

-- Its steps went on with what came back, and this comes next, once it has asked so often, so often something was said of
-- its blocks, and one was given up or not.
pub record HasStepped (before : WorkView) (got : Got) (asked said : ℕ) (gave_up : Bool) (after : WorkView) : Type 0 where
  pub step : Step
  pub next : IsNext before.state.command after.state.progress got step
  pub so : IsStepEverywhere before.state.command after.state.progress got step
  pub is : after ≡ come_to (record before { state = state_after before.state got step }) asked said gave_up step

-- It is told next that there is no memory. Its steps may have gone on.
pub record HasStopped (before : WorkView) (asked : ℕ) (after : WorkView) : Type 0 where
  pub state : LineState
  pub command : state.command ≡ before.state.command
  pub nodes : state.progress.nodes ≡ before.state.progress.nodes
  pub is : after ≡ cut_with (record before { state = state }) asked answers.OutOfMemory

abbrev pub IsTakenUp : WorkView → Got → ℕ → ℕ → Bool → WorkView → Type 0
IsTakenUp before got asked said gave_up after =
    HasStepped before got asked said gave_up after ⊎ HasStopped before asked after

-- why its steps don't go on
abbrev pub IsUntaken : WorkView → Got → Untaken → Type 0
IsUntaken before got reasons.NoFit = is_fit before.state.progress.nodes before.state.awaited got ≡ false
IsUntaken before got reasons.OutOfMemory = is_fit before.state.progress.nodes before.state.awaited got ≡ true
