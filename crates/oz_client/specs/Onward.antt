-- The next step of a line, by what came back to it.
use Rattle.std.specs.Prelude.{◌≡◌, ℕ, ◌*◌, List, length, Option, None, Some, false}
use Rattle.std.specs.List.{flat_map}
use Rattle.oz_command.specs.declared.command.Command.{Command}
use Rattle.oz_command.specs.declared.command.Command.TheVariants as commands
use Rattle.oz_command.specs.declared.payload.TheConstants.{PIECE_BYTES}
use Rattle.oz_command.specs.Payload.{data_length, piece}
use Rattle.oz_core.specs.Due.{reads_piece, values_of}
use Rattle.oz_core.specs.Steps.{is_code, pieces_needed}
use Rattle.oz_core.specs.Stories.{last_in}
use Rattle.oz_fields.specs.declared.block.Block.{Block}
use Rattle.oz_fields.specs.declared.block.Piece.{Piece}
use Rattle.oz_nodes.specs.Pipelines.{members_of}
use Rattle.oz_requests.specs.declared.answer.Answer.{Answer}
use Rattle.oz_requests.specs.declared.answer.Answer.TheVariants as told
use Rattle.oz_requests.specs.declared.answer.Values.{Values}
use Rattle.oz_requests.specs.declared.answer.Values.TheVariants as values
use Rattle.oz_requests.specs.declared.reply.Reply.{Reply}
use Rattle.oz_requests.specs.declared.reply.Reply.TheVariants as replies
use Rattle.oz_steps.specs.declared.came.Granted.{Granted}
use Rattle.oz_steps.specs.declared.label.Label.{Label}
use Rattle.oz_steps.specs.Grants.{written_blocks}
use Rattle.oz_steps.specs.Requests.{request_by}
use Rattle.oz_client.specs.declared.progress.Progress.{Progress}
use Rattle.oz_client.specs.declared.step.Got.{Got}
use Rattle.oz_client.specs.declared.step.Got.TheVariants as gots
use Rattle.oz_client.specs.declared.step.Step.{Step}
use Rattle.oz_client.specs.declared.step.Step.TheVariants as steps
use Rattle.oz_client.specs.LineState.{pieces_in}

-- The block that was granted last is written, as the piece of the data behind those that were written.
pub record IsWriting (command : Command) (progress : Progress) (block : Block) (members : List ℕ) (first count : ℕ)
    : Type 0 where
  pub granted : Granted
  pub its : progress.came.writing ≡ Some granted
  pub block_is : block ≡ granted.block
  pub of_pipeline : members ≡ members_of progress.nodes granted.pipeline
  pub place : first ≡ PIECE_BYTES * length (written_blocks progress.came.attempts)
  pub size : count ≡ length (piece (length (written_blocks progress.came.attempts)) command)

-- Nothing is being written, and nothing is to be asked.
pub record IsIdle (command : Command) (progress : Progress) : Type 0 where
  pub unwritten : progress.came.writing ≡ None
  pub no_step : request_by command progress.label progress.came ≡ None

-- the next piece that is to be read
pub record IsReading (command : Command) (progress : Progress) (piece : Piece) : Type 0 where
  pub idle : IsIdle command progress
  pub next : reads_piece command (pieces_in progress.came.replies) (length progress.read) ≡ Some piece

-- ---- what a line is told

-- the label that it commits has no session
abbrev pub IsUnopened : Command → Option Label → Type 0
IsUnopened (commands.KeyCommit name) None = Unit {0}
IsUnopened _ label = ⊥

-- what stands behind OK
abbrev pub AreValuesBy : Command → Progress → Reply → Values → Type 0
AreValuesBy (commands.KeyPut volume bucket key payload) progress reply it =
    it ≡ values.Length (data_length (commands.KeyPut volume bucket key payload))
AreValuesBy (commands.KeyOpen label volume bucket key payload) progress reply it =
    it ≡ values.Length (data_length (commands.KeyOpen label volume bucket key payload))
AreValuesBy (commands.KeyGet volume bucket snapshot key) progress reply it =
    (pieces : List Piece) × (reply ≡ replies.Pieces pieces) × (length pieces ≡ length progress.read)
    × (it ≡ values.Bytes (flat_map (λ content. content) progress.read))
AreValuesBy (commands.Admin command) progress reply it = ⊥
AreValuesBy command progress reply it = values_of command reply ≡ Some it

-- Nothing is left to be done, nothing was refused, and all is written and read.
pub record IsOver (command : Command) (progress : Progress) (it : Values) : Type 0 where
  pub opened : IsUnopened command progress.label → ⊥
  pub idle : IsIdle command progress
  pub reply : Reply
  pub last : last_in progress.came.replies ≡ Some reply
  pub no_code : is_code reply ≡ false
  pub written : length (written_blocks progress.came.attempts) ≡ pieces_needed command
  pub values : AreValuesBy command progress reply it

abbrev pub IsToldOf : Command → Progress → Answer → Type 0
IsToldOf command progress (told.Ok it) = IsOver command progress it
IsToldOf command progress told.NotOpen = IsUnopened command progress.label
IsToldOf command progress _ = ⊥

-- ---- every step

-- what comes next where nothing was refused
abbrev pub IsOnward : Command → Progress → Step → Type 0
IsOnward command progress (steps.Ask request) =
    (progress.came.writing ≡ None) × (request_by command progress.label progress.came ≡ Some request)
IsOnward command progress (steps.Write block members first count) =
    IsWriting command progress block members first count
IsOnward command progress (steps.Read piece) = IsReading command progress piece
IsOnward command progress (steps.Admin admin) = command ≡ commands.Admin admin
IsOnward command progress (steps.Tell answer) = IsToldOf command progress answer

-- a piece that isn't read ends the line
pub record IsUnread (command : Command) (progress : Progress) (step : Step) : Type 0 where
  pub piece : Piece
  pub its : IsReading command progress piece
  pub told_so : step ≡ steps.Tell (told.NoReplica (length progress.read) piece.block)

-- What comes next, by what came back last. The progress has that already.
abbrev pub IsNext : Command → Progress → Got → Step → Type 0
IsNext command progress (gots.Answered answer) step = step ≡ steps.Tell answer
IsNext command progress (gots.Reply (replies.Code code)) step = step ≡ steps.Tell (told.Code code)
IsNext command progress (gots.Read None) step = IsUnread command progress step
IsNext command progress _ step = IsOnward command progress step
