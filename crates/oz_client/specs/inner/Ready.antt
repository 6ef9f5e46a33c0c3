-- For private calls: what is known before a line goes on, and what its type keeps.
use Rattle.std.specs.Prelude.{◌≡◌, ◌⊎◌, ◌<◌, ◌≤◌, Bool, true, false, [], length, Option, None, Some, is_some, MatchOption}
use Rattle.std.specs.List.{list_any}
use Rattle.std.specs.Option.{option_map_or}
use Rattle.oz_command.specs.declared.command.Command.{Command}
use Rattle.oz_command.specs.declared.command.Command.TheVariants as commands
use Rattle.oz_core.specs.Due.{values_of}
use Rattle.oz_core.specs.Steps.{is_code, pieces_needed}
use Rattle.oz_core.specs.Stories.{last_in}
use Rattle.oz_fields.specs.declared.block.Piece.{Piece}
use Rattle.oz_names.specs.declared.code.Code.{Code}
use Rattle.oz_nodes.specs.declared.nodes.TheConstants.{FEWEST_NODES, MOST_NODES}
use Rattle.oz_nodes.specs.Pipelines.{pipelines_of}
use Rattle.oz_requests.specs.declared.request.Request.{Request}
use Rattle.oz_requests.specs.declared.reply.Reply.{Reply}
use Rattle.oz_requests.specs.declared.reply.Reply.TheVariants as replies
use Rattle.oz_steps.specs.declared.came.Came.{Came}
use Rattle.oz_steps.specs.declared.came.Granted.{Granted}
use Rattle.oz_steps.specs.declared.label.Label.{Label}
use Rattle.oz_steps.specs.Grants.{written_blocks}
use Rattle.oz_steps.specs.Requests.{request_by}
use Rattle.oz_client.specs.declared.progress.Awaited.{Awaited}
use Rattle.oz_client.specs.declared.progress.Awaited.TheVariants as awaits
use Rattle.oz_client.specs.declared.progress.Progress.{Progress}
use Rattle.oz_client.specs.declared.advance.Stepped.{Stepped}
use Rattle.oz_client.specs.declared.step.Got.{Got}
use Rattle.oz_client.specs.declared.step.Step.{Step}
use Rattle.oz_client.specs.declared.step.Step.TheVariants as steps
use Rattle.oz_requests.specs.declared.answer.Answer.TheVariants as told
use Rattle.oz_client.specs.LineState.{awaited_by, label_of, left_by, pieces_in, progress_after}
use Rattle.oz_client.specs.Onward.{IsIdle, IsNext, IsOnward, IsReading}
use Rattle.oz_client.specs.declared.kinds.ReplyKind.TheVariants as kinds
use Rattle.oz_client.specs.Replies.{is_of_kind, kind_for}

-- the reply gives what stands behind OK
abbrev pub has_values : Command → Reply → Bool
has_values (commands.KeyPut volume bucket key payload) reply = true
has_values (commands.KeyOpen label volume bucket key payload) reply = true
has_values (commands.KeyGet volume bucket snapshot key) reply = is_of_kind kinds.Pieces reply
has_values (commands.Admin command) reply = true
has_values command reply = is_some (values_of command reply)

abbrev pub last_has_values : Command → Came → Bool
last_has_values command came = option_map_or (has_values command) (last_in came.replies) false

-- the last reply gives what stands behind OK by itself
abbrev pub last_gives : Command → Came → Bool
last_gives command came = option_map_or (λ (reply : Reply). is_some (values_of command reply)) (last_in came.replies) false

-- this block may be written
pub record MayWrite (command : Command) (progress : Progress) (granted : Granted) : Type 0 where
  pub pipeline : granted.pipeline < pipelines_of progress.nodes
  pub more : length (written_blocks progress.came.attempts) < pieces_needed command

-- What is so of a line before it goes on.
pub record IsReady (command : Command) (progress : Progress) : Type 0 where
  pub least : FEWEST_NODES ≤ progress.nodes
  pub most : progress.nodes ≤ MOST_NODES
  pub no_code : list_any is_code progress.came.replies ≡ false
  pub within : length (written_blocks progress.came.attempts) ≤ pieces_needed command
  pub writing : (granted : Granted) → progress.came.writing ≡ Some granted → MayWrite command progress granted
  pub values : (progress.came.replies ≡ []) ⊎ (last_has_values command progress.came ≡ true)
  pub read : length progress.read ≤ length (pieces_in progress.came.replies)
  pub few : length (pieces_in progress.came.replies) ≤ 65536
  pub unread : (progress.read ≡ []) ⊎ IsIdle command progress

-- and while something is awaited
abbrev pub Waits : Command → Progress → Awaited → Type 0
Waits command progress awaits.Start = IsReady command progress
Waits command progress (awaits.Reply kind) =
    IsReady command progress × (progress.came.writing ≡ None)
    × ((request : Request) × (request_by command progress.label progress.came ≡ Some request)
    × (kind ≡ kind_for request))
Waits command progress awaits.Written =
    IsReady command progress × ((granted : Granted) × (progress.came.writing ≡ Some granted))
Waits command progress awaits.Read =
    IsReady command progress × ((piece : Piece) × IsReading command progress piece)
Waits command progress awaits.Answer = Unit {0}
Waits command progress awaits.Nothing = Unit {0}

-- a step, with what it leaves in the label that the line opened
abbrev pub stepped_by : Command → Progress → Step → Stepped
stepped_by command progress step = record { step = step; left = left_by command progress.came step }

-- the line went on
pub record GoesOn (command : Command) (progress : Progress) (stepped : Stepped) : Type 0 where
  pub next : IsOnward command progress stepped.step
  pub left : stepped.left ≡ left_by command progress.came stepped.step
  pub waits : Waits command progress (awaited_by stepped.step)

-- it went on, or was told the code that was replied
pub record GoesOnBehind (command : Command) (progress : Progress) (code : Option Code) (stepped : Stepped) : Type 0 where
  pub next : MatchOption code (IsOnward command progress stepped.step)
      (λ code. stepped.step ≡ steps.Tell (told.Code code))
  pub left : stepped.left ≡ left_by command progress.came stepped.step
  pub waits : Waits command progress (awaited_by stepped.step)

-- what a step leaves: the progress has what came back, the step is the next, and is waited for
pub record IsStepped (command : Command) (before : Progress) (got : Got) (after : Progress) (stepped : Stepped)
    : Type 0 where
  pub noted : after ≡ progress_after before got
  pub next : IsNext command after got stepped.step
  pub left : stepped.left ≡ left_by command after.came stepped.step
  pub waits : Waits command after (awaited_by stepped.step)

-- what the type of a line's steps keeps
pub record IsKept (command : Command) (progress : Progress) (awaited : Awaited) (left : Option Label) : Type 0 where
  pub least : FEWEST_NODES ≤ progress.nodes
  pub most : progress.nodes ≤ MOST_NODES
  pub waits : Waits command progress awaited
  pub its : (left ≡ None) ⊎ (left ≡ label_of command progress.came)

-- which commands are told what
abbrev pub is_get : Command → Bool
is_get (commands.KeyGet volume bucket snapshot key) = true
is_get _ = false

abbrev pub is_commit : Command → Bool
is_commit (commands.KeyCommit name) = true
is_commit _ = false

abbrev pub is_writing : Command → Bool
is_writing (commands.KeyPut volume bucket key payload) = true
is_writing (commands.KeyOpen name volume bucket key payload) = true
is_writing _ = false

-- it asks once, and is told what was replied
abbrev pub is_plain : Command → Bool
is_plain (commands.KeyPut volume bucket key payload) = false
is_plain (commands.KeyOpen name volume bucket key payload) = false
is_plain (commands.KeyCommit name) = false
is_plain (commands.KeyGet volume bucket snapshot key) = false
is_plain (commands.Admin command) = false
is_plain _ = true

-- the code in a reply
abbrev pub code_in : Reply → Option Code
code_in (replies.Code code) = Some code
code_in _ = None
