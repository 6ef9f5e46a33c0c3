-- What a line's command to a datanode comes to, and what one to stop or start it does.
use Rattle.std.specs.Prelude.{◌≡◌, ℕ, ◌≤◌, Bool, true, false, List, [], ◌∷◌, ◌++◌, Result, Ok, Err, Some, if◌then◌else◌, not, slice_index, slice_set}
use Rattle.oz_core.specs.declared.event.Event.{Event}
use Rattle.oz_core.specs.declared.event.Node.TheVariants.{Datanode}
use Rattle.oz_core.specs.Due.{IsAway, IsBack}
use Rattle.oz_core.specs.Manager.{halt_of}
use Rattle.oz_datanode.specs.Datanode.{count_of, is_halted}
use Rattle.oz_script.specs.declared.lines.script.Line.{Line}
use Rattle.oz_script.specs.declared.lines.script.Script.{Script}
use Rattle.oz_node_events.specs.declared.command.NodeCommand.{NodeCommand}
use Rattle.oz_node_events.specs.declared.command.NodeCommand.TheVariants as command
use Rattle.oz_node_events.specs.Commands.{by_node, run_event}
use Rattle.oz_node_events.specs.Led.{HasLed}
use Rattle.oz_node_events.specs.NodeSeat.{SeatView}
use Rattle.oz_replicas.specs.Cells.{CellView}
use Rattle.oz_scm_events.specs.Kept.{ScmView}
use Rattle.oz_scm_events.specs.Tracked.{IsTracked}
use Rattle.oz_turn.specs.Told.{BeginsWith}
use Rattle.oz_node_admin.specs.declared.fault.AdminFault.{AdminFault}
use Rattle.oz_node_admin.specs.declared.fault.AdminFault.TheVariants.{Halted, OutOfMemory, Repeated}

-- what is done to have a datanode run, or not
abbrev pub run_done : Bool → NodeCommand
run_done true = command.Start
run_done false = command.Stop

-- where a datanode neither runs nor is up, or where it does both
abbrev pub IsAsCommanded : ℕ → Bool → List Event → Type 0
IsAsCommanded dn true = IsBack dn
IsAsCommanded dn false = IsAway dn

-- whether something is to be done, by whether a line had stopped the datanode
abbrev pub is_wanted : Bool → Bool → Bool
is_wanted true stopped = stopped
is_wanted false stopped = not stopped

-- the events of the datanode's seat, behind a command: a Stop more where the datanode wasn't stopped by a line, a Start more
-- where it was
abbrev pub own_after : ℕ → Bool → Bool → List Event → List Event
own_after dn true stopped mine = if stopped then mine ++ by_node dn (run_event dn true) ∷ [] else mine
own_after dn false stopped mine = if stopped then mine else mine ++ by_node dn (run_event dn false) ∷ []

-- and the last line of each client that had something done to it: the line that has this done, where something is to be done
abbrev pub last_after : Bool → Bool → Line → List ℕ → List ℕ
last_after runs stopped line last =
    if is_wanted runs stopped then slice_set last line.client line.number else last

-- at a place since this was seen, and in the story, the datanode was as it is commanded to be
pub record HasBeen (Coherent : Type 0) (dn : ℕ) (runs : Bool) (before story : List Event) : Type 0 where
  pub place : List Event
  pub since : BeginsWith place before
  pub within : BeginsWith story place
  pub held : Coherent → IsAsCommanded dn runs place

module _ {D S : Type 0} (before after : CellView D SeatView) (scm_before scm_after : ScmView S) where
  -- The datanode and the storage container manager are as they were, and gave no event.
  pub record IsUntouched : Type 0 where
    pub node : after.node ≡ before.node
    pub number : after.kept.dn ≡ before.kept.dn
    pub its : after.kept.mine ≡ before.kept.mine
    pub last : after.kept.last ≡ before.kept.last
    pub scm : scm_after.scm ≡ scm_before.scm
    pub of_the_scm : scm_after.mine ≡ scm_before.mine

  -- One of its disks had failed, and who commanded it has seen the Halt.
  pub record IsHalted (faults : D → ℕ) (seen_after : List Event) (count : ℕ) : Type 0 where
    pub halted : is_halted before.node ≡ true
    pub counted : count ≡ count_of faults before.node
    pub seen : halt_of (Datanode before.kept.dn) seen_after ≡ Some count
    pub untouched : IsUntouched

  -- This line, or a later one of its client, is the last that had something done to it, and where the opening is coherent such a
  -- line of the script has.
  pub record IsRepeated (Coherent : Type 0) (script : Script) (line : Line) : Type 0 where
    pub unhalted : is_halted before.node ≡ false
    pub not_behind : line.number ≤ slice_index before.kept.last line.client
    pub led : Coherent → HasLed script before.kept.dn before.kept.seen before.kept.mine line.client line.number
    pub untouched : IsUntouched

  module _ (faults : D → ℕ) (Coherent : Type 0) (script : Script) (runs : Bool) (line : Line)
      (seen_before seen_after : List Event) where
    -- It is as commanded, the seats have told so, and who commanded it has seen that.
    pub record IsDone : Type 0 where
      pub unhalted : is_halted before.node ≡ false
      pub node : after.node ≡ record before.node { stopped = not runs }
      pub number : after.kept.dn ≡ before.kept.dn
      pub its : after.kept.mine ≡ own_after before.kept.dn runs before.node.stopped before.kept.mine
      pub last : after.kept.last ≡ last_after runs before.node.stopped line before.kept.last
      pub changed : Bool
      pub of_the_scm : IsTracked {E = Unit {0}} before.kept.dn runs scm_before.mine scm_after.mine (Ok changed)
      pub scm : scm_after.scm ≡ record scm_before.scm { up = slice_set scm_before.scm.up before.kept.dn runs }
      pub has_been : HasBeen Coherent before.kept.dn runs seen_before seen_after

    -- what such a command comes to, by its answer
    abbrev pub ComesTo : Result (Unit {0}) AdminFault → Type 0
    ComesTo (Ok done) = IsDone
    ComesTo (Err (Halted count)) = IsHalted faults seen_after count
    ComesTo (Err Repeated) = (is_wanted runs before.node.stopped ≡ true) × IsRepeated Coherent script line
    ComesTo (Err OutOfMemory) = (is_halted before.node ≡ false) × IsUntouched
