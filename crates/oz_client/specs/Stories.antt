-- What a story has of a line, and what the line's next step is in it.
use Rattle.std.specs.Prelude.{◌≡◌, ℕ, ◌*◌, ◌<◌, true, false, List, [], ◌∷◌, ◌++◌, length, take, None, Some, Contains}
use Rattle.oz_command.specs.declared.command.Command.{Command}
use Rattle.oz_command.specs.declared.command.Command.TheVariants as commands
use Rattle.oz_command.specs.declared.payload.TheConstants.{PIECE_BYTES}
use Rattle.oz_command.specs.Payload.{piece}
use Rattle.oz_core.specs.declared.event.Event.{Event}
use Rattle.oz_core.specs.declared.opening.Opening.{Opening}
use Rattle.oz_core.specs.Asks.{asks_of, last_ask, replies_to}
use Rattle.oz_core.specs.Contents.{OpeningBytes, written_for}
use Rattle.oz_core.specs.Due.{AreContents, IsDue, last_reply}
use Rattle.oz_core.specs.Nodes.{is_intact}
use Rattle.oz_core.specs.Steps.{GrantedBlock, commit_step, granted_to, is_open_at, is_settled, next_step}
use Rattle.oz_fields.specs.declared.block.Block.{Block}
use Rattle.oz_fields.specs.declared.block.Piece.{Piece}
use Rattle.oz_script.specs.declared.lines.script.Line.{Line}
use Rattle.oz_script.specs.declared.lines.script.Script.{Script}
use Rattle.oz_requests.specs.declared.request.AskId.{AskId}
use Rattle.oz_requests.specs.declared.reply.Reply.TheVariants as replies
use Rattle.oz_steps.specs.declared.label.Label.{Label}
use Rattle.oz_steps.specs.Lines.{IsOf, commit_of_label}
use Rattle.oz_client.specs.declared.progress.Progress.{Progress}
use Rattle.oz_client.specs.declared.step.Got.{Got}
use Rattle.oz_client.specs.declared.step.Got.TheVariants as gots
use Rattle.oz_client.specs.declared.step.Step.{Step}
use Rattle.oz_client.specs.declared.step.Step.TheVariants as steps
use Rattle.oz_client.specs.LineState.{pieces_in}
use Rattle.oz_client.specs.Onward.{IsReading}

-- What a story has of this line is what came back to it; all that it asked is decided, and the bytes that it read are
-- those of the pieces.
pub record IsAt (opening : Opening) (bytes : OpeningBytes) (script : Script) (story : List Event) (line : Line)
    (command : Command) (progress : Progress) : Type 0 where
  pub of_line : IsOf opening script story line command progress.label progress.came
  pub decided : length (replies_to line.client line.number story) ≡ length (asks_of line.client line.number story)
  pub read : AreContents opening bytes script story
      (take (length progress.read) (pieces_in progress.came.replies)) progress.read

-- none of the datanodes is an intact holder of a block, for what the line asked last
pub record NoneIsIntact (opening : Opening) (story : List Event) (line : Line) (block : Block) : Type 0 where
  pub id : AskId
  pub last : last_ask line.client line.number story ≡ Some id
  pub none : (dn : ℕ) → dn < length opening.nodes → is_intact opening story id block dn ≡ false

-- What the story has of what came back: that no piece was read since it has no intact holder, and that an answer that was
-- found elsewhere is due.
abbrev pub HasIt : Opening → OpeningBytes → Script → List Event → Line → Command → Progress → Got → Type 0
HasIt opening bytes script story line command progress (gots.Read None) =
    (piece : Piece) → IsReading command progress piece → NoneIsIntact opening story line piece.block
HasIt opening bytes script story line command progress (gots.Answered answer) =
    IsDue opening bytes script story line answer
HasIt opening bytes script story line command progress _ = Unit {0}

-- the block is the last that the line was granted, nothing came of it yet, and it is for the piece behind those that the
-- line has written
pub record IsBeingWritten (opening : Opening) (story : List Event) (line : Line) (block : Block) (first count : ℕ)
    : Type 0 where
  pub earlier : List GrantedBlock
  pub grant : GrantedBlock
  pub last : granted_to line.client line.number story ≡ earlier ++ grant ∷ []
  pub block_is : grant.block ≡ block
  pub unsettled : is_settled opening story grant ≡ false
  pub place : first ≡ PIECE_BYTES * length (written_for line.client line.number story)
  pub size : count ≡ length (piece (length (written_for line.client line.number story)) line.command)

-- The step is the line's next: an ask is its next step, and an answer is due.
abbrev pub IsStepIn : Opening → OpeningBytes → Script → List Event → Line → Step → Type 0
IsStepIn opening bytes script story line (steps.Ask request) =
    next_step opening script story line ≡ Some request
IsStepIn opening bytes script story line (steps.Write block members first count) =
    IsBeingWritten opening story line block first count
IsStepIn opening bytes script story line (steps.Read piece) =
    (pieces : List Piece) × (last_reply story line ≡ Some (replies.Pieces pieces)) × Contains pieces piece
IsStepIn opening bytes script story line (steps.Admin admin) = line.command ≡ commands.Admin admin
IsStepIn opening bytes script story line (steps.Tell answer) = IsDue opening bytes script story line answer

-- so it is in every story that has of the line what came back to it
abbrev pub IsStepEverywhere : Command → Progress → Got → Step → Type 0
IsStepEverywhere command progress got step =
    (opening : Opening) (bytes : OpeningBytes) (script : Script) (story : List Event) (line : Line)
    → IsAt opening bytes script story line command progress
    → HasIt opening bytes script story line command progress got
    → IsStepIn opening bytes script story line step

-- What a line leaves in a label: wherever a story has of the line what came back to it, and that it was told OK, a commit
-- of the label is that of what the line wrote.
abbrev pub IsLeftEverywhere : Command → Progress → Label → Type 0
IsLeftEverywhere command progress label =
    (opening : Opening) (script : Script) (story : List Event) (line : Line)
    → IsOf opening script story line command progress.label progress.came
    → is_open_at story line ≡ true
    → commit_step story (Some line) ≡ Some (commit_of_label label)
