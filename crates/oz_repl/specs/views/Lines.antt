-- That each Stop, Start and Wipe of a datanode is for a line of its own.
use Rattle.std.specs.Prelude.{◌≡◌, ◌≢◌, ℕ, ◌≤◌, Bool, ◌==◌, List, ◌∷◌, ◌++◌, length, slice_get, slice_index, Option, None, Some}
use Rattle.std.specs.Prelude.{is_some, if◌then◌else◌, All, AllPairs}
use Rattle.oz_command.specs.declared.command.AdminCommand.{AdminCommand}
use Rattle.oz_command.specs.declared.command.AdminCommand.TheVariants as admin
use Rattle.oz_script.specs.declared.lines.script.Line.{Line}
use Rattle.oz_script.specs.declared.lines.script.Script.{Script}
use Rattle.oz_core.specs.declared.event.Event.{Event}
use Rattle.oz_core.specs.declared.event.EventKind.{EventKind}
use Rattle.oz_core.specs.declared.event.EventKind.TheVariants.{Stop, Start, Wipe}
use Rattle.oz_core.specs.Fits.{IsAtWork}
use Rattle.oz_core.specs.Stories.{count_events}

-- the command of a line that has this done to the datanode
abbrev pub command_of : ℕ → EventKind → Option AdminCommand
command_of dn (Stop other) = if other == dn then Some (admin.Stop dn) else None
command_of dn (Start other) = if other == dn then Some (admin.Start dn) else None
command_of dn (Wipe other) = if other == dn then Some (admin.Wipe dn) else None
command_of dn _ = None

abbrev pub is_commanded : ℕ → EventKind → Bool
is_commanded dn kind = is_some (command_of dn kind)

-- At a place the next of these lines has the command, has started and isn't told.
pub record IsForNext (script : Script) (dn : ℕ) (lines : List Line) (place : List Event) (command : AdminCommand)
    : Type 0 where
  pub at_work : IsAtWork script place command
  pub next : slice_get lines (count_events (is_commanded dn) place) ≡ Some at_work.line

-- Lines that differ, one for each Stop, Start and Wipe of the datanode, in their order; none of them is behind the last
-- that is kept of its client, by the client's number.
pub record AreForLines (script : Script) (dn : ℕ) (last : List ℕ) (story : List Event) : Type 0 where
  pub lines : List Line
  pub many : length lines ≡ count_events (is_commanded dn) story
  pub each : (place behind : List Event) (event : Event) (command : AdminCommand) → story ≡ place ++ event ∷ behind
      → command_of dn event.kind ≡ Some command → IsForNext script dn lines place command
  pub apart : AllPairs ◌≢◌ lines
  pub old : All (λ (line : Line). line.number ≤ slice_index last line.client) lines
