-- How far a line is, what may come back to it, and what that leaves.
use Rattle.std.specs.Prelude.{ℕ, Bool, true, false, List, [], ◌∷◌, ◌++◌, Option, None, Some}
use Rattle.std.specs.Option.{option_map_or}
use Rattle.oz_command.specs.declared.command.Command.{Command}
use Rattle.oz_command.specs.declared.command.Command.TheVariants as commands
use Rattle.oz_core.specs.declared.event.PutRefusal.{PutRefusal}
use Rattle.oz_core.specs.Steps.{Target, target, pieces_from, session_in}
use Rattle.oz_core.specs.Stories.{last_in}
use Rattle.oz_fields.specs.declared.block.Piece.{Piece}
use Rattle.oz_requests.specs.declared.answer.Answer.TheVariants as told
use Rattle.oz_requests.specs.declared.reply.Reply.{Reply}
use Rattle.oz_steps.specs.declared.came.Came.{Came}
use Rattle.oz_steps.specs.declared.came.Granted.{Granted}
use Rattle.oz_steps.specs.declared.label.Label.{Label}
use Rattle.oz_steps.specs.Came.{with_answers, with_reply}
use Rattle.oz_steps.specs.Grants.{written_blocks}
use Rattle.oz_client.specs.declared.progress.Awaited.{Awaited}
use Rattle.oz_client.specs.declared.progress.Awaited.TheVariants as awaits
use Rattle.oz_client.specs.declared.progress.Progress.{Progress}
use Rattle.oz_client.specs.declared.step.Got.{Got}
use Rattle.oz_client.specs.declared.step.Got.TheVariants as gots
use Rattle.oz_client.specs.declared.step.Step.{Step}
use Rattle.oz_client.specs.declared.step.Step.TheVariants as steps
use Rattle.oz_client.specs.Replies.{kind_for, may_reply, pieces_of_reply}

-- a line: its command, what is known of it, what comes back next, and what it leaves in the label that it opened
pub record LineState : Type 0 where
  pub command : Command
  pub progress : Progress
  pub awaited : Awaited
  pub left : Option Label

-- nothing came yet
abbrev pub nothing_yet : ℕ → Option Label → Progress
nothing_yet nodes label = record {
  nodes = nodes;
  label = label;
  came = record { replies = []; attempts = []; writing = None };
  read = [];
}

abbrev pub state_before : Command → ℕ → Option Label → LineState
state_before command nodes label = record {
  command = command;
  progress = nothing_yet nodes label;
  awaited = awaits.Start;
  left = None;
}

-- the pieces that a key was found to have, if that was replied last
abbrev pub pieces_in : List Reply → List Piece
pieces_in given = option_map_or pieces_of_reply (last_in given) []

-- ---- what may come back

-- a step was taken, and it wasn't the last
abbrev pub is_under_way : Awaited → Bool
is_under_way awaits.Start = false
is_under_way (awaits.Reply kind) = true
is_under_way awaits.Written = true
is_under_way awaits.Read = true
is_under_way awaits.Answer = true
is_under_way awaits.Nothing = false

abbrev pub is_reply_fit : ℕ → Awaited → Reply → Bool
is_reply_fit nodes (awaits.Reply kind) reply = may_reply kind nodes reply
is_reply_fit nodes _ reply = false

abbrev pub is_start : Awaited → Bool
is_start awaits.Start = true
is_start _ = false

abbrev pub is_writing : Awaited → Bool
is_writing awaits.Written = true
is_writing _ = false

abbrev pub is_reading : Awaited → Bool
is_reading awaits.Read = true
is_reading _ = false

-- what comes back is of the last step
abbrev pub is_fit : ℕ → Awaited → Got → Bool
is_fit nodes awaited gots.Start = is_start awaited
is_fit nodes awaited (gots.Reply reply) = is_reply_fit nodes awaited reply
is_fit nodes awaited (gots.Written written) = is_writing awaited
is_fit nodes awaited (gots.Read bytes) = is_reading awaited
is_fit nodes awaited (gots.Answered answer) = is_under_way awaited

-- ---- what that leaves

-- with the answers of the members of the block that was being written
abbrev pub came_written : Came → Option Granted → List (Option PutRefusal) → Came
came_written came None answers = came
came_written came (Some granted) answers = with_answers came granted answers

abbrev pub progress_after : Progress → Got → Progress
progress_after progress gots.Start = progress
progress_after progress (gots.Reply reply) = record progress { came = with_reply progress.came reply }
progress_after progress (gots.Written written) =
    record progress { came = came_written progress.came progress.came.writing written.answers }
progress_after progress (gots.Read None) = progress
progress_after progress (gots.Read (Some bytes)) = record progress { read = progress.read ++ bytes.items ∷ [] }
progress_after progress (gots.Answered answer) = progress

-- what comes back of a step
abbrev pub awaited_by : Step → Awaited
awaited_by (steps.Ask request) = awaits.Reply (kind_for request)
awaited_by (steps.Write block members first count) = awaits.Written
awaited_by (steps.Read piece) = awaits.Read
awaited_by (steps.Admin command) = awaits.Answer
awaited_by (steps.Tell answer) = awaits.Nothing

-- A line that opens a label and is told OK leaves in it what it wrote.
abbrev pub label_in : Command → Target → Came → Option ℕ → Option Label
label_in command to came None = None
label_in command to came (Some session) = Some (record {
  volume = to.volume;
  bucket = to.bucket;
  key = to.key;
  session = session;
  pieces = pieces_from 0 command (written_blocks came.attempts);
})

abbrev pub label_of : Command → Came → Option Label
label_of (commands.KeyOpen name volume bucket key payload) came =
    label_in (commands.KeyOpen name volume bucket key payload) (target volume bucket key) came
    (session_in came.replies)
label_of _ came = None

abbrev pub left_by : Command → Came → Step → Option Label
left_by command came (steps.Tell (told.Ok values)) = label_of command came
left_by command came _ = None

abbrev pub state_after : LineState → Got → Step → LineState
state_after state got step = record {
  command = state.command;
  progress = progress_after state.progress got;
  awaited = awaited_by step;
  left = left_by state.command (progress_after state.progress got).came step;
}
