-- What a line asks next, by what came back to it.
use Rattle.std.specs.Prelude.{ℕ, Bool, true, false, not, ◌&&◌, nat_lt, length, Option, None, Some, is_some}
use Rattle.std.specs.Prelude.{if◌then◌else◌}
use Rattle.std.specs.List.{list_any}
use Rattle.oz_command.specs.declared.command.Command.{Command}
use Rattle.oz_command.specs.declared.command.Command.TheVariants as commands
use Rattle.oz_core.specs.Steps.{Target, target, is_code, is_done, pieces_from, pieces_needed, session_in}
use Rattle.oz_requests.specs.declared.request.Request.{Request}
use Rattle.oz_requests.specs.declared.request.Request.TheVariants as requests
use Rattle.oz_requests.specs.declared.reply.Reply.{Reply}
use Rattle.oz_steps.specs.declared.came.Came.{Came}
use Rattle.oz_steps.specs.declared.label.Label.{Label}
use Rattle.oz_steps.specs.Grants.{excluded_by, written_blocks}
use Rattle.oz_steps.specs.Lines.{commit_of_label}
use Rattle.oz_steps.specs.Single.{single_of}

-- one more block, once nothing is being written
abbrev pub block_by : Came → Target → ℕ → Option Request
block_by came to session =
    if is_some came.writing then None
    else Some (requests.AllocateBlock to.volume to.bucket to.key session (excluded_by came.attempts))

-- with a session: blocks until each piece is written, and then the commit, where the line commits and hasn't yet
abbrev pub write_by : Command → Came → Target → Bool → ℕ → Option Request
write_by command came to commits session =
    if nat_lt (length (written_blocks came.attempts)) (pieces_needed command) then block_by came to session
    else if commits && not (list_any is_done came.replies)
    then Some (requests.CommitKey to.volume to.bucket to.key session
    (pieces_from 0 command (written_blocks came.attempts)))
    else None

abbrev pub put_by : Command → Came → Target → Bool → Option ℕ → Option Request
put_by command came to commits None = Some (requests.CreateKey to.volume to.bucket to.key)
put_by command came to commits (Some session) = write_by command came to commits session

-- what is asked once
abbrev pub once_by : Came → Option Request → Option Request
once_by came request = if list_any (λ (reply : Reply). true) came.replies then None else request

abbrev pub commit_by : Option Label → Option Request
commit_by None = None
commit_by (Some label) = Some (commit_of_label label)

abbrev pub command_by : Command → Option Label → Came → Option Request
command_by (commands.KeyPut volume bucket key payload) label came =
    put_by (commands.KeyPut volume bucket key payload) came (target volume bucket key) true (session_in came.replies)
command_by (commands.KeyOpen name volume bucket key payload) label came =
    put_by (commands.KeyOpen name volume bucket key payload) came (target volume bucket key) false
    (session_in came.replies)
command_by (commands.KeyCommit name) label came = once_by came (commit_by label)
command_by (commands.Admin command) label came = None
command_by command label came = once_by came (single_of command)

-- behind a code there is nothing
abbrev pub request_by : Command → Option Label → Came → Option Request
request_by command label came = if list_any is_code came.replies then None else command_by command label came
