-- What who works for a line knows of it.
use Rattle.std.specs.Prelude.{◌≡◌, ◌≢◌, ℕ, ◌*◌, Bool, true, false, ◌&&◌, List, [], ◌∷◌, length, Option, None, Some, is_none, Contains}
use Rattle.std.specs.List.{list_all}
use Rattle.oz_command.specs.declared.command.Command.{Command}
use Rattle.oz_fields.specs.declared.block.Block.{Block}
use Rattle.oz_fields.specs.declared.block.TheConstants.{LONGEST_PIECE}
use Rattle.oz_requests.specs.declared.request.AskId.{AskId}
use Rattle.oz_script.specs.declared.lines.script.Line.{Line}
use Rattle.oz_script.specs.declared.lines.script.Script.{Script}
use Rattle.oz_buffer.specs.Became.{times_said}
use Rattle.oz_core.specs.declared.event.Event.{Event}
use Rattle.oz_core.specs.declared.event.EventKind.{EventKind}
use Rattle.oz_core.specs.declared.event.EventKind.TheVariants.{Put, Refused, Wrote}
use Rattle.oz_core.specs.declared.event.PutRefusal.{PutRefusal}
use Rattle.oz_core.specs.declared.limits.TheConstants.{SERVICE_CLIENT}
use Rattle.oz_core.specs.declared.opening.Opening.{Opening}
use Rattle.oz_core.specs.Asks.{asks_of, is_id, is_own}
use Rattle.oz_core.specs.Contents.{HasContent, OpeningBytes, WasGranted, piece_number, written_for}
use Rattle.oz_core.specs.Law.{IsNamed, puts}
use Rattle.oz_core.specs.Lines.{HasStarted}
use Rattle.oz_core.specs.Nodes.{length_of}
use Rattle.oz_core.specs.Seats.{datanode_seat}
use Rattle.oz_core.specs.Stories.{has_event}
use Rattle.oz_turn.specs.Told.{BeginsWith}
use Rattle.oz_steps.specs.declared.came.Granted.{Granted}
use Rattle.oz_steps.specs.declared.label.Label.{Label}
use Rattle.oz_steps.specs.Grants.{has_fate_written}
use Rattle.oz_steps.specs.Lines.{IsLabel}
use Rattle.oz_client.specs.declared.progress.Progress.{Progress}
use Rattle.oz_client.specs.Stories.{IsAt}
use Rattle.oz_underway.specs.GoingOn.{FromHereOn}

-- how often a line asked
abbrev pub times_asked : List Event → Line → ℕ
times_asked story line = length (asks_of line.client line.number story)

-- who asked so often asked this last, with the step of that number
abbrev pub IsLast : Option AskId → ℕ → Type 0
IsLast None asked = asked ≡ 0
IsLast (Some id) asked = id.step ≡ asked

-- each block that the line was granted is written, as far as came back to it: nothing more can become of them
abbrev pub is_all_written : Progress → Bool
is_all_written progress = is_none progress.came.writing && list_all has_fate_written progress.came.attempts

-- So often something was said of the line's blocks. Where all are written it doesn't matter how often.
abbrev pub IsSaid : List Event → Line → ℕ → Progress → Type 0
IsSaid story line said progress =
    is_all_written progress ≡ false → times_said line.client line.number story ≡ said

-- the id of a line's Ask of this number
abbrev pub ask_of : Line → ℕ → AskId
ask_of line step = record { client = line.client; line = line.number; step = step }

-- something is said of a block for this Ask: that it was put or refused, or written
abbrev pub says_for : AskId → EventKind → Bool
says_for id (Put dn block other first count) = is_id id other
says_for id (Refused dn block other refusal) = is_id id other
says_for id (Wrote block other) = is_id id other
says_for id _ = false

-- The block was granted to the line's last Ask, for the piece behind those that are written. Nothing was said of it yet.
pub record IsToBeWritten (story : List Event) (line : Line) (asked : ℕ) (granted : Granted) : Type 0 where
  pub before : List Event
  pub its : WasGranted story (ask_of line asked) granted.block before
  pub on : its.pipeline ≡ granted.pipeline
  pub in_turn : length (written_for line.client line.number story) ≡ piece_number (ask_of line asked) before
  pub unsaid : has_event (says_for (ask_of line asked)) story ≡ false

-- so it is of the block that is being written, if there is one
abbrev pub IsUnwritten : List Event → Line → ℕ → Option Granted → Type 0
IsUnwritten story line asked None = Unit {0}
IsUnwritten story line asked (Some granted) = IsToBeWritten story line asked granted

-- a member put the block, or refused it so for this Ask
abbrev pub HasAnswered : List Event → AskId → Block → ℕ → Option PutRefusal → Type 0
HasAnswered story id block dn None = has_event (puts dn block) story ≡ true
HasAnswered story id block dn (Some refusal) =
    Contains story (record { seat = datanode_seat dn; kind = Refused dn block id refusal })

-- so it is of each of these members, in their order
abbrev pub HaveAnswered : List Event → AskId → Block → List ℕ → List (Option PutRefusal) → Type 0
HaveAnswered story id block [] [] = Unit {0}
HaveAnswered story id block [] (answer ∷ answers) = ⊥
HaveAnswered story id block (dn ∷ members) [] = ⊥
HaveAnswered story id block (dn ∷ members) (answer ∷ answers) =
    HasAnswered story id block dn answer × HaveAnswered story id block members answers

-- These bytes are the piece of a line's data that the block was granted for to this Ask, which isn't the line's own id, and
-- the piece begins there; whoever put the block had as many.
pub record IsPieceFor (opening : Opening) (bytes : OpeningBytes) (script : Script) (story : List Event) (id : AskId)
    (block : Block) (first : ℕ) (content : List ℕ) : Type 0 where
  pub asked : is_own id ≡ false
  pub named : IsNamed story id block
  pub before : List Event
  pub granted : WasGranted story id block before
  pub place : first ≡ LONGEST_PIECE * piece_number id before
  pub has : HasContent opening bytes script story block content
  pub alike : (count : ℕ) → length_of opening story block ≡ Some count → count ≡ length content

module _ (Coherent : Type 0) (opening : Opening) (bytes : OpeningBytes) (script : Script) where
  -- so it is from here on, as long as the line asked so often, and so much was said of its blocks
  abbrev pub WhileStill : List Event → Line → ℕ → ℕ → Progress → (List Event → Type 0) → Type 0
  WhileStill seen line asked said progress Holds =
      FromHereOn Coherent opening bytes script seen
      (λ story. times_asked story line ≡ asked → IsSaid story line said progress → Holds story)

  -- from here on the label that the line commits stands for this
  abbrev pub LabelStays : List Event → Line → Command → Option Label → Type 0
  LabelStays seen line command label =
      FromHereOn Coherent opening bytes script seen (λ story. IsLabel script story line command label)

  -- At a place of what was seen a script's line had started, had asked so often, and so much was said of its blocks. From
  -- there on, as long as it asks no more and no more is said of them, what a story has of the line is what came back to it.
  pub record IsUnderWay (seen : List Event) (line : Line) (asked said : ℕ) (command : Command) (progress : Progress)
      : Type 0 where
    pub there : Contains script.lines line
    pub of_client : line.client ≢ SERVICE_CLIENT
    pub since : List Event
    pub goes_on : BeginsWith seen since
    pub started : HasStarted since line
    pub asked_so : times_asked since line ≡ asked
    pub said_so : IsSaid since line said progress
    pub unwritten : IsUnwritten since line asked progress.came.writing
    pub labelled : LabelStays since line command progress.label
    pub has : WhileStill since line asked said progress
        (λ story. IsAt opening bytes script story line command progress)
