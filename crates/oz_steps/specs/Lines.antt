-- What came back to a line, as a story has it.
use Rattle.std.specs.Prelude.{◌≡◌, List, Option, None, Some}
use Rattle.oz_command.specs.declared.command.Command.{Command}
use Rattle.oz_command.specs.declared.command.Command.TheVariants as commands
use Rattle.oz_requests.specs.declared.request.Request.{Request}
use Rattle.oz_requests.specs.declared.request.Request.TheVariants as requests
use Rattle.oz_script.specs.declared.lines.script.Line.{Line}
use Rattle.oz_script.specs.declared.lines.script.Script.{Script}
use Rattle.oz_core.specs.declared.event.Event.{Event}
use Rattle.oz_core.specs.declared.opening.Opening.{Opening}
use Rattle.oz_core.specs.Asks.{replies_to}
use Rattle.oz_core.specs.Contents.{written_for}
use Rattle.oz_core.specs.Due.{IsNotOpen}
use Rattle.oz_core.specs.Steps.{granted_to, commit_step, opening_line}
use Rattle.oz_steps.specs.declared.came.Came.{Came}
use Rattle.oz_steps.specs.declared.label.Label.{Label}
use Rattle.oz_steps.specs.Grants.{AreGrants, written_blocks}

-- the commit of what a label stands for
abbrev pub commit_of_label : Label → Request
commit_of_label label = requests.CommitKey label.volume label.bucket label.key label.session label.pieces

-- The label that a line commits stands for what the last line that opened it wrote, or isn't open.
abbrev pub IsLabel : Script → List Event → Line → Command → Option Label → Type 0
IsLabel script story line (commands.KeyCommit name) (Some label) =
    commit_step story (opening_line script line name) ≡ Some (commit_of_label label)
IsLabel script story line (commands.KeyCommit name) None = IsNotOpen script story line (commands.KeyCommit name)
IsLabel script story line _ label = Unit {0}

-- What a story has of this line is what came back to it, and what its label stands for.
pub record IsOf (opening : Opening) (script : Script) (story : List Event) (line : Line)
    (command : Command) (label : Option Label) (came : Came) : Type 0 where
  pub does : line.command ≡ command
  pub commits : IsLabel script story line command label
  pub replies : replies_to line.client line.number story ≡ came.replies
  pub grants : AreGrants opening story came.attempts came.writing (granted_to line.client line.number story)
  pub written : written_for line.client line.number story ≡ written_blocks came.attempts

-- This is so of each story that has it so.
abbrev pub ShowsThat : Command → Option Label → Came → (Opening → Script → List Event → Line → Type 0) → Type 0
ShowsThat command label came Holds = (opening : Opening) (script : Script) (story : List Event) (line : Line)
    → IsOf opening script story line command label came → Holds opening script story line
