-- When a line may be told an answer, what is appended then, and what keeps it from being told.
use Rattle.std.specs.Prelude.{◌≡◌, ◌≢◌, ◌⊎◌, ℕ, ◌<◌, ◌≤◌, true, false, List, [], ◌∷◌, ◌++◌, Option, None, Some}
use Rattle.oz_buffer.specs.Became.{times_said}
use Rattle.oz_core.specs.declared.event.Event.{Event}
use Rattle.oz_core.specs.declared.event.EventKind.TheVariants.{Told}
use Rattle.oz_core.specs.declared.event.Node.TheVariants.{Manager, Datanode}
use Rattle.oz_core.specs.declared.opening.Opening.{Opening}
use Rattle.oz_core.specs.Asks.{is_told, last_ask, line_index}
use Rattle.oz_core.specs.Law.{IsInTime}
use Rattle.oz_core.specs.Manager.{asked_late, durable_index, halt_of}
use Rattle.oz_core.specs.Scm.{is_up}
use Rattle.oz_nodes.specs.declared.nodes.TheConstants.{MOST_NODES}
use Rattle.oz_requests.specs.declared.answer.Answer.{Answer}
use Rattle.oz_requests.specs.declared.answer.Answer.TheVariants as answers
use Rattle.oz_requests.specs.declared.request.AskId.{AskId}
use Rattle.oz_turn.specs.Told.{BeginsWith}
use Rattle.oz_asker.specs.declared.telling.still.Still.{Still}
use Rattle.oz_asker.specs.declared.telling.untold.Untold.{Untold}
use Rattle.oz_asker.specs.declared.telling.untold.Untold.TheVariants as causes
use Rattle.oz_asker.specs.telling.Still.{AllStandStill}

-- all that was decided for a line is stable; something isn't
abbrev pub AllIsStable : Opening → List Event → ℕ → ℕ → Type 0
AllIsStable opening story client line = line_index client line story ≤ durable_index opening story

abbrev pub SomeIsUnstable : Opening → List Event → ℕ → ℕ → Type 0
SomeIsUnstable opening story client line = durable_index opening story < line_index client line story

-- the manager had halted when this was asked last; where nothing was asked, it has halted
abbrev pub HadStopped : List Event → Option AskId → Type 0
HadStopped story None = halt_of Manager story ≢ None
HadStopped story (Some id) = asked_late id story ≡ true

-- What an answer says of the manager's end holds. The other answers say nothing of it.
abbrev pub CauseStands : Opening → List Event → ℕ → ℕ → Option AskId → Answer → Type 0
CauseStands opening story client line last answers.Unacknowledged =
    (halt_of Manager story ≢ None) × SomeIsUnstable opening story client line
CauseStands opening story client line last answers.ManagerStopped = HadStopped story last
CauseStands opening story client line last _ = Unit {0}

-- a datanode has halted, and is up still
abbrev pub IsLeftUp : List Event → ℕ → Type 0
IsLeftUp story dn = (halt_of (Datanode dn) story ≢ None) × (is_up dn story ≡ true)

-- no datanode that has halted is up
abbrev pub NoneIsLeftUp : List Event → Type 0
NoneIsLeftUp story = (dn : ℕ) → dn < MOST_NODES → halt_of (Datanode dn) story ≢ None → is_up dn story ≡ false

-- so it is, unless what is told is that there is no memory
abbrev pub HaltedAreDown : List Event → Answer → Type 0
HaltedAreDown story answer = (answer ≡ answers.OutOfMemory) ⊎ NoneIsLeftUp story

-- The line wasn't told, this is what it asked last, so often something was said of its blocks, the seats stand still, what
-- the answer says of the manager's end holds, no datanode that has halted is up, and it is in time.
pub record MayTell (opening : Opening) (story : List Event) (client line : ℕ) (last : Option AskId) (said : ℕ)
    (stills : List Still) (answer : Answer) : Type 0 where
  pub untold : is_told client line story ≡ false
  pub asked : last_ask client line story ≡ last
  pub as_said : times_said client line story ≡ said
  pub still : AllStandStill story stills
  pub cause : CauseStands opening story client line last answer
  pub down : HaltedAreDown story answer
  pub in_time : IsInTime opening story client line answer

abbrev pub told_event : ℕ → ℕ → ℕ → Answer → Event
told_event seat client line answer = record { seat = seat; kind = Told client line answer }

-- The story had come to a place where the line may be told this, and the seat appended that it is told.
pub record IsTold (opening : Opening) (seat client line : ℕ) (last : Option AskId) (said : ℕ) (stills : List Still)
    (answer : Answer) (seen mine seen_after mine_after : List Event) : Type 0 where
  pub before : List Event
  pub begins : BeginsWith before seen
  pub may : MayTell opening before client line last said stills answer
  pub story : seen_after ≡ before ++ told_event seat client line answer ∷ []
  pub given : mine_after ≡ mine ++ told_event seat client line answer ∷ []

-- the line wasn't told, this is what it asked last, and so often something was said of its blocks
abbrev pub IsAsKnown : List Event → ℕ → ℕ → Option AskId → ℕ → Type 0
IsAsKnown story client line last said =
    (is_told client line story ≡ false) × (last_ask client line story ≡ last) × (times_said client line story ≡ said)

-- What keeps a line from being told an answer. Each excludes the others, but for want of memory, which always may.
abbrev pub KeepsUntold : Opening → List Event → ℕ → ℕ → Option AskId → ℕ → List Still → Answer → Untold → Type 0
KeepsUntold opening story client line last said stills answer causes.Told = is_told client line story ≡ true
KeepsUntold opening story client line last said stills answer causes.OtherAsk =
    (is_told client line story ≡ false) × (last_ask client line story ≢ last)
KeepsUntold opening story client line last said stills answer causes.OtherBlocks =
    (is_told client line story ≡ false) × (last_ask client line story ≡ last) × (times_said client line story ≢ said)
KeepsUntold opening story client line last said stills answer causes.Moved =
    IsAsKnown story client line last said × (AllStandStill story stills → ⊥)
KeepsUntold opening story client line last said stills answer causes.NotDue =
    IsAsKnown story client line last said × AllStandStill story stills
    × (CauseStands opening story client line last answer → ⊥)
KeepsUntold opening story client line last said stills answer (causes.LeftUp dn) =
    IsAsKnown story client line last said × AllStandStill story stills
    × CauseStands opening story client line last answer
    × (answer ≢ answers.OutOfMemory) × dn < MOST_NODES × IsLeftUp story dn
KeepsUntold opening story client line last said stills answer causes.Unstable =
    IsAsKnown story client line last said × AllStandStill story stills
    × CauseStands opening story client line last answer × HaltedAreDown story answer
    × SomeIsUnstable opening story client line × (IsInTime opening story client line answer → ⊥)
KeepsUntold opening story client line last said stills answer causes.OutOfMemory = Unit {0}
