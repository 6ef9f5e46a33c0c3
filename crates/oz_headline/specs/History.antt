-- What a history says of replies, of asks and of answers.
use Rattle.std.specs.Prelude.{◌≡◌, ◌≢◌, ℕ, ◌≤◌, ◌<◌, true, List, None, Some}
use Rattle.oz_requests.specs.declared.answer.Answer.{Answer}
use Rattle.oz_requests.specs.declared.answer.Answer.TheVariants as told
use Rattle.oz_requests.specs.declared.request.Request.{Request}
use Rattle.oz_script.specs.declared.lines.script.Script.{Script}
use Rattle.oz_model.specs.Answers.{Answers}
use Rattle.oz_core.specs.declared.event.Event.{Event}
use Rattle.oz_core.specs.declared.event.EventKind.{EventKind}
use Rattle.oz_core.specs.declared.event.EventKind.TheVariants.{Ask, Decide, Flushed, Told}
use Rattle.oz_core.specs.declared.event.Node.TheVariants.{Manager}
use Rattle.oz_core.specs.declared.opening.Opening.{Opening}
use Rattle.oz_core.specs.Asks.{is_script, is_asked, pending, line_index}
use Rattle.oz_core.specs.Fits.{AskFits}
use Rattle.oz_core.specs.Manager.{namespace_of, durable_index, halt_of}
use Rattle.oz_headline.specs.Places.{AtEachPlace}

-- ---- replies

-- what a Decide replies is what one thread answers at its place, to what its id had asked last
abbrev pub ReplyIsOneThreads : Opening → List Event → EventKind → Type 0
ReplyIsOneThreads opening before (Decide id index reply batch) =
    (request : Request) × (pending id before ≡ Some request) × Answers (namespace_of opening before) request reply
ReplyIsOneThreads opening before _ = Unit {0}

abbrev pub RepliesAreOneThreads : Opening → List Event → Type 0
RepliesAreOneThreads opening story = AtEachPlace (ReplyIsOneThreads opening) story

-- ---- asks

-- A line of a script asks its next step, in its turn, after its start. A Decide stands behind an Ask of its id.
abbrev pub IsInTurn : Opening → Script → List Event → EventKind → Type 0
IsInTurn opening script before (Ask id request) = is_script id ≡ true → AskFits opening script before id request
IsInTurn opening script before (Decide id index reply batch) = is_asked id before ≡ true
IsInTurn opening script before _ = Unit {0}

abbrev pub AllAreInTurn : Opening → Script → List Event → Type 0
AllAreInTurn opening script story = AtEachPlace (IsInTurn opening script) story

-- ---- answers

-- all that was decided for a line is stable
abbrev pub LineIsStable : Opening → List Event → ℕ → ℕ → Type 0
LineIsStable opening before client line = line_index client line before ≤ durable_index opening before

-- What an answer says of that: it is stable. But UNACKNOWLEDGED says that it isn't, and OUT_OF_MEMORY says nothing. By
-- UNACKNOWLEDGED and MANAGER_STOPPED the manager has halted.
abbrev pub AnswerHolds : Opening → List Event → ℕ → ℕ → Answer → Type 0
AnswerHolds opening before client line told.Unacknowledged =
    (halt_of Manager before ≢ None) × (durable_index opening before < line_index client line before)
AnswerHolds opening before client line told.ManagerStopped =
    (halt_of Manager before ≢ None) × LineIsStable opening before client line
AnswerHolds opening before client line told.OutOfMemory = Unit {0}
AnswerHolds opening before client line _ = LineIsStable opening before client line

abbrev pub ToldHolds : Opening → List Event → EventKind → Type 0
ToldHolds opening before (Told client line answer) = AnswerHolds opening before client line answer
ToldHolds opening before _ = Unit {0}

abbrev pub ToldIsStable : Opening → List Event → Type 0
ToldIsStable opening story = AtEachPlace (ToldHolds opening) story

-- ---- what is flushed

-- it was so by this moment
abbrev pub IsBy : ℕ → EventKind → Type 0
IsBy clock (Flushed index moment) = moment ≤ clock
IsBy clock _ = Unit {0}

abbrev pub AllAreBy : ℕ → List Event → Type 0
AllAreBy clock story = AtEachPlace (λ before kind. IsBy clock kind) story
