-- What lines of a script had done to a datanode: each of its Stops, Starts and Wipes is that of a line.
use Rattle.std.specs.Prelude.{◌≡◌, ◌≢◌, ℕ, ◌+◌, ◌≤◌, Bool, true, false, List, [], ◌∷◌, ◌++◌, length, replicate, slice_index, All, AllPairs, Contains}
use Rattle.oz_command.specs.declared.command.AdminCommand.{AdminCommand}
use Rattle.oz_command.specs.declared.command.AdminCommand.TheVariants as admin
use Rattle.oz_command.specs.declared.command.Command.TheVariants.{Admin}
use Rattle.oz_core.specs.declared.event.Event.{Event}
use Rattle.oz_core.specs.declared.event.EventKind.{EventKind}
use Rattle.oz_core.specs.declared.event.EventKind.TheVariants.{Stop, Start, Wipe}
use Rattle.oz_core.specs.Asks.{is_told}
use Rattle.oz_core.specs.Due.{wipes}
use Rattle.oz_core.specs.Fits.{starts, stops}
use Rattle.oz_core.specs.Lines.{HasStarted}
use Rattle.oz_core.specs.Stories.{count_events}
use Rattle.oz_script.specs.declared.lines.script.Line.{Line}
use Rattle.oz_script.specs.declared.lines.script.Script.{Script}
use Rattle.oz_script.specs.declared.lines.script.TheConstants.{MOST_CLIENTS}
use Rattle.oz_turn.specs.Told.{BeginsWith}
use Rattle.oz_node_events.specs.declared.command.NodeCommand.{NodeCommand}
use Rattle.oz_node_events.specs.declared.command.NodeCommand.TheVariants as command
use Rattle.oz_node_events.specs.Commands.{by_node}

-- the event that tells of it, whether an event is one, and the command of a line that has it done
abbrev pub done_kind : ℕ → NodeCommand → EventKind
done_kind dn command.Stop = Stop dn
done_kind dn command.Start = Start dn
done_kind dn command.Wipe = Wipe dn

abbrev pub is_done : ℕ → NodeCommand → EventKind → Bool
is_done dn command.Stop = stops dn
is_done dn command.Start = starts dn
is_done dn command.Wipe = wipes dn

abbrev pub admin_command : ℕ → NodeCommand → AdminCommand
admin_command dn command.Stop = admin.Stop dn
admin_command dn command.Start = admin.Start dn
admin_command dn command.Wipe = admin.Wipe dn

-- an event that tells of none
abbrev pub IsUncommanded : EventKind → Type 0
IsUncommanded (Stop dn) = ⊥
IsUncommanded (Start dn) = ⊥
IsUncommanded (Wipe dn) = ⊥
IsUncommanded _ = Unit {0}

-- for each client from 0 on, its last line that had something done; none as the run begins
abbrev pub no_lines : List ℕ
no_lines = replicate (MOST_CLIENTS + 1) 0

abbrev pub last_of : List ℕ → ℕ → ℕ
last_of last client = slice_index last client

-- A line of the script that has this done to the datanode, and has started.
pub record HasItDone (script : Script) (story : List Event) (dn : ℕ) (done : NodeCommand) (line : Line) : Type 0 where
  pub there : Contains script.lines line
  pub so : line.command ≡ Admin (admin_command dn done)
  pub started : HasStarted story line

-- The line of a client with this number, or a later one, has started and had something done to the datanode, as an event of it
-- tells.
pub record HasLed (script : Script) (dn : ℕ) (seen mine : List Event) (client number : ℕ) : Type 0 where
  pub line : Line
  pub of_client : line.client ≡ client
  pub not_before : number ≤ line.number
  pub done : NodeCommand
  pub by : HasItDone script seen dn done line
  pub told : Contains mine (by_node dn (done_kind dn done))

-- As many lines have this done to the datanode and have started as its seat told of it, and none of them is behind the last of
-- its client.
pub record AreLed (script : Script) (dn : ℕ) (last : List ℕ) (seen mine : List Event) (done : NodeCommand) : Type 0 where
  pub lines : List Line
  pub apart : AllPairs ◌≢◌ lines
  pub there : All (Contains script.lines) lines
  pub so : All (λ (line : Line). line.command ≡ Admin (admin_command dn done)) lines
  pub started : All (HasStarted seen) lines
  pub enough : count_events (is_done dn done) mine ≤ length lines
  pub old : All (λ (line : Line). line.number ≤ last_of last line.client) lines

-- A line, and the story up to where it had something done to a datanode.
pub record DoneFor : Type 0 where
  pub place : List Event
  pub line : Line

-- There the line had started and wasn't told, and the event that tells of it stands next.
pub record IsDoneFor (script : Script) (dn : ℕ) (story : List Event) (it : DoneFor) : Type 0 where
  pub done : NodeCommand
  pub by : HasItDone script it.place dn done it.line
  pub untold : is_told it.line.client it.line.number it.place ≡ false
  pub told : BeginsWith story (it.place ++ by_node dn (done_kind dn done) ∷ [])

-- Each Stop, Start and Wipe of the datanode in a story was done for a line of its own. None of the lines is behind the last of its
-- client.
pub record AreForLines (script : Script) (dn : ℕ) (last : List ℕ) (story : List Event) : Type 0 where
  pub list : List DoneFor
  pub each : All (IsDoneFor script dn story) list
  pub all : (done : NodeCommand) (place : List Event) (event : Event) → BeginsWith story (place ++ event ∷ [])
      → is_done dn done event.kind ≡ true → (it : DoneFor) × (Contains list it × (it.place ≡ place))
  pub apart : AllPairs (λ (one other : DoneFor). one.line ≢ other.line) list
  pub old : All (λ (it : DoneFor). it.line.number ≤ last_of last it.line.client) list

-- So it is of all that may be done, each for a line of its own. The last line of each client that is kept had something done.
pub record HaveLed (script : Script) (dn : ℕ) (last : List ℕ) (seen mine : List Event) : Type 0 where
  pub many : length last ≡ MOST_CLIENTS + 1
  pub each : (done : NodeCommand) → AreLed script dn last seen mine done
  pub for_lines : AreForLines script dn last seen
  pub latest : (client : ℕ) → 1 ≤ last_of last client → HasLed script dn seen mine client (last_of last client)
