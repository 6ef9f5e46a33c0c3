-- For private calls: a line that was replied to, and one that is told something else than its steps say.
use Rattle.std.specs.Prelude.{◌≢◌, ℕ, ◌+◌, ◌≤◌, ◌==◌, Bool, true, false, not, ◌||◌, List, [], length, None}
use Rattle.oz_asker.specs.Decided.{IsDecideAt}
use Rattle.oz_buffer.specs.Buffer.{AllFollow, Follows}
use Rattle.oz_client.specs.declared.step.Step.{Step}
use Rattle.oz_client.specs.declared.step.Step.TheVariants as steps
use Rattle.oz_core.specs.declared.event.Event.{Event}
use Rattle.oz_core.specs.declared.opening.Opening.{Opening}
use Rattle.oz_core.specs.Contents.{OpeningBytes}
use Rattle.oz_script.specs.declared.lines.script.Script.{Script}
use Rattle.oz_requests.specs.declared.answer.Answer.{Answer}
use Rattle.oz_requests.specs.declared.answer.Answer.TheVariants as answers
use Rattle.oz_requests.specs.declared.reply.Reply.{Reply}
use Rattle.oz_turn.specs.Told.{BeginsWith}
use Rattle.oz_at_work.specs.AtWork.{IsAtWork, WorkView, id_of}

-- Behind what was seen before the line's next request was decided with this reply.
pub record WasReplied (Coherent : Type 0) (opening : Opening) (bytes : OpeningBytes) (script : Script)
    (seen : List Event) (work : WorkView) (reply : Reply) : Type 0 where
  pub before : List Event
  pub at_work : IsAtWork Coherent opening bytes script before work
  pub goes_on : BeginsWith seen before
  pub follow : AllFollow (Follows Coherent opening bytes script) [] seen
  pub place : ℕ
  pub behind : length before ≤ place
  pub decided : IsDecideAt seen place (id_of work.line (work.asked + 1)) reply

-- the step is an ask
abbrev pub IsAsking : Step → Type 0
IsAsking (steps.Ask request) = Unit {0}
IsAsking _ = ⊥

-- the step writes a block
abbrev pub is_write : Step → Bool
is_write (steps.Write block members first count) = true
is_write _ = false

-- What comes next holds where so often something is said of the line's blocks: as often as it knows, where one of them is
-- written next or was given up.
abbrev pub holds_where_said : WorkView → ℕ → Bool
holds_where_said work said = not (is_write work.next || work.gave_up) || said == work.said

-- An answer that needs nothing of a line but how often it has asked.
abbrev pub IsOfEnd : ℕ → Answer → Type 0
IsOfEnd asked answers.OutOfMemory = Unit {0}
IsOfEnd asked answers.Unacknowledged = Unit {0}
IsOfEnd asked answers.ManagerStopped = asked ≢ 0
IsOfEnd asked _ = ⊥

-- what a line is that is told this next, whatever its steps say, once it has asked so often
abbrev pub cut_with : WorkView → ℕ → Answer → WorkView
cut_with work asked answer = record work {
  asked = asked;
  next = steps.Tell answer;
  is_cut = true;
  gave_up = false;
  refused = None;
  was_done = false;
}
