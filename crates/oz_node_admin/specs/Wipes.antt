-- What a line's command to wipe a datanode comes to.
use Rattle.std.specs.Prelude.{◌≡◌, ◌⊎◌, ℕ, Bool, false, ◌&&◌, not, List, [], ◌∷◌, ◌++◌, Option, Some, Result, Ok, Err}
use Rattle.std.specs.Prelude.{slice_set}
use Rattle.oz_core.specs.declared.event.Event.{Event}
use Rattle.oz_core.specs.declared.event.EventKind.{EventKind}
use Rattle.oz_core.specs.declared.event.EventKind.TheVariants.{Halt, Wipe}
use Rattle.oz_core.specs.declared.event.Node.TheVariants.{Datanode}
use Rattle.oz_core.specs.Manager.{halt_of}
use Rattle.oz_core.specs.Nodes.{is_running}
use Rattle.oz_core.specs.Scm.{is_up}
use Rattle.oz_datanode.specs.Datanode.{State, is_halted}
use Rattle.oz_node_events.specs.Commands.{HaltsSo, IsWipedSo, by_node}
use Rattle.oz_node_events.specs.NodeSeat.{SeatView}
use Rattle.oz_script.specs.declared.lines.script.Line.{Line}
use Rattle.oz_script.specs.declared.lines.script.Script.{Script}
use Rattle.oz_replicas.specs.Cells.{CellView}
use Rattle.oz_scm_events.specs.Kept.{ScmView}
use Rattle.oz_scm_events.specs.Tracked.{IsTracked}
use Rattle.oz_turn.specs.Told.{BeginsWith}
use Rattle.oz_world.specs.Disk.{Images}
use Rattle.oz_node_admin.specs.declared.fault.AdminFault.{AdminFault}
use Rattle.oz_node_admin.specs.declared.fault.AdminFault.TheVariants.{Halted, OutOfMemory, Repeated}
use Rattle.oz_node_admin.specs.Commands.{IsHalted, IsRepeated, IsUntouched}

-- neither a disk nor a line has stopped it
abbrev pub runs_now : {D : Type 0} → State D → Bool
runs_now node = not (is_halted node) && not node.stopped

-- a datanode holds nothing any more; or one of its disks failed, and so many calls on both have
abbrev pub Empties : {D : Type 0} → (D → Option (List ℕ)) → (D → ℕ) → (D → Images) → (D → ℕ) → Type 0 → State D
    → State D → Result (Unit {0}) ℕ → Type 0
Empties told clock image faults Coherent old new (Ok done) = IsWipedSo told clock image faults Coherent old new
Empties told clock image faults Coherent old new (Err count) = HaltsSo told faults old new count

-- the last lines of clients, behind it: the line that has it done, where it was done
abbrev pub last_wiped : Line → List ℕ → Result (Unit {0}) ℕ → List ℕ
last_wiped line last (Ok done) = slice_set last line.client line.number
last_wiped line last (Err count) = last

-- what its seat tells of that
abbrev pub wipe_event : ℕ → Result (Unit {0}) ℕ → EventKind
wipe_event dn (Ok done) = Wipe dn
wipe_event dn (Err count) = Halt (Datanode dn) count

-- what is answered then
abbrev pub answer_of : Result (Unit {0}) ℕ → Result (Unit {0}) AdminFault
answer_of (Ok done) = Ok done
answer_of (Err count) = Err (Halted count)

-- The datanode's seat gave this event, and the storage container manager takes the datanode for up exactly if it
-- runs, and told so where it hadn't before.
pub record HaveTold {S : Type 0} (before after : SeatView) (scm_before scm_after : ScmView S) (kind : EventKind)
    (runs : Bool) : Type 0 where
  pub number : after.dn ≡ before.dn
  pub its : after.mine ≡ before.mine ++ by_node before.dn kind ∷ []
  pub changed : Bool
  pub of_the_scm : IsTracked {E = Unit {0}} before.dn runs scm_before.mine scm_after.mine (Ok changed)
  pub scm : scm_after.scm ≡ record scm_before.scm { up = slice_set scm_before.scm.up before.dn runs }

-- The story went on from what was seen before by these events, the datanode's seat told this among them, and behind
-- them the datanode is up exactly if it runs.
pub record HasTold (Coherent : Type 0) (dn : ℕ) (kind : EventKind) (before story : List Event) : Type 0 where
  pub front : List Event
  pub behind : List Event
  pub within : BeginsWith story (before ++ (front ++ by_node dn kind ∷ behind))
  pub agrees : Coherent → is_up dn (before ++ (front ++ by_node dn kind ∷ behind))
      ≡ is_running dn (before ++ (front ++ by_node dn kind ∷ behind))

module _ {D S : Type 0} (before after : CellView D SeatView) (scm_before scm_after : ScmView S)
    (told : D → Option (List ℕ)) (clock : D → ℕ) (image : D → Images) (faults : D → ℕ) (Coherent : Type 0)
    (script : Script) (line : Line) (seen_before seen_after : List Event) where
  -- It holds nothing any more, the seats have told so, and who commanded it has seen that.
  pub record IsWiped : Type 0 where
    pub node : IsWipedSo told clock image faults Coherent before.node after.node
    pub seats : HaveTold before.kept after.kept scm_before scm_after (Wipe before.kept.dn) (not before.node.stopped)
    pub last : after.kept.last ≡ slice_set before.kept.last line.client line.number
    pub has_told : HasTold Coherent before.kept.dn (Wipe before.kept.dn) seen_before seen_after

  -- One of its disks failed now, the seats have told so, and who commanded it has seen the Halt.
  pub record Halts (count : ℕ) : Type 0 where
    pub unhalted : is_halted before.node ≡ false
    pub node : HaltsSo told faults before.node after.node count
    pub seats : HaveTold before.kept after.kept scm_before scm_after (Halt (Datanode before.kept.dn) count) false
    pub last : after.kept.last ≡ before.kept.last
    pub has_told : HasTold Coherent before.kept.dn (Halt (Datanode before.kept.dn) count) seen_before seen_after
    pub seen : halt_of (Datanode before.kept.dn) seen_after ≡ Some count

  -- what such a command comes to, by its answer
  abbrev pub WipeComesTo : Result (Unit {0}) AdminFault → Type 0
  WipeComesTo (Ok done) = IsWiped
  WipeComesTo (Err (Halted count)) = IsHalted before after scm_before scm_after faults seen_after count ⊎ Halts count
  WipeComesTo (Err Repeated) = IsRepeated before after scm_before scm_after Coherent script line
  WipeComesTo (Err OutOfMemory) =
      (is_halted before.node ≡ false) × IsUntouched before after scm_before scm_after
