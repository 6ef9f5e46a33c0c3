-- What comes of a change that a datanode's journal is to tell, and what is told of it in the story.
use Rattle.std.specs.Prelude.{◌≡◌, ℕ, true, false, List, [], ◌∷◌, ◌++◌, Option, None, Some, Result, Ok, Err, IfErr}
use Rattle.oz_buffer.specs.Buffer.{IsNote}
use Rattle.oz_core.specs.declared.event.Event.{Event}
use Rattle.oz_core.specs.declared.event.EventKind.{EventKind}
use Rattle.oz_core.specs.declared.event.EventKind.TheVariants.{Halt}
use Rattle.oz_core.specs.declared.event.Node.{Node}
use Rattle.oz_core.specs.declared.event.Node.TheVariants.{Datanode}
use Rattle.oz_core.specs.declared.opening.Opening.{Opening}
use Rattle.oz_core.specs.Contents.{OpeningBytes}
use Rattle.oz_datanode.specs.Datanode.{State, Runs, count_of, is_halted}
use Rattle.oz_datanode.specs.declared.refusal.NodeRefusal.{NodeRefusal}
use Rattle.oz_datanode.specs.declared.refusal.NodeRefusal.TheVariants as nodes
use Rattle.oz_replicas.specs.Stays.{Stays}
use Rattle.oz_script.specs.declared.lines.script.Script.{Script}
use Rattle.oz_turn.specs.declared.seat.Seat.{Seat}
use Rattle.oz_turn.specs.declared.told.Told.{Ghosts}
use Rattle.oz_turn.specs.Seat.{IsSameSeat, mine_of, room_of, seen_of, taken_of}
use Rattle.oz_turn.specs.Told.{BeginsWith}
use Rattle.oz_world.specs.Disk.{Images}
use Rattle.oz_node_events.specs.declared.refusal.ChangeRefusal.{ChangeRefusal}
use Rattle.oz_node_events.specs.declared.refusal.ChangeRefusal.TheVariants.{Stopped, Halted, Failed, OutOfMemory}
use Rattle.oz_node_events.specs.Commands.{HaltsSo, by_node}
use Rattle.oz_node_events.specs.Led.{IsUncommanded}
use Rattle.oz_node_events.specs.NodeSeat.{IsAppended, IsKept, PutsUntold, SeatView, StandsFor, is_bad}

-- a line stopped it; a disk had failed before; one failed while it ran; and without memory it holds what it held
module _ {D : Type 0} (told : D → Option (List ℕ)) (clock : D → ℕ) (image : D → Images) (faults : D → ℕ) (old new : State D) where
  abbrev pub IsRefusedFor : ChangeRefusal → Type 0
  IsRefusedFor Stopped = (is_halted old ≡ false) × (old.stopped ≡ true) × (new ≡ old)
  IsRefusedFor (Halted count) = (is_halted old ≡ true) × (count ≡ count_of faults old) × (new ≡ old)
  IsRefusedFor (Failed count) = Runs faults old × HaltsSo told faults old new count
  IsRefusedFor OutOfMemory = Stays told clock image faults old new

-- For private calls: what a running datanode's refusal comes to, with the count of its disks.
abbrev pub refused_as : ℕ → NodeRefusal → ChangeRefusal
refused_as count nodes.OutOfMemory = OutOfMemory
refused_as count (nodes.Stopped own) = Failed count
refused_as count (nodes.Full used asked capacity) = Failed count
refused_as count (nodes.NotOpen state) = Failed count
refused_as count nodes.NoBlock = Failed count
refused_as count (nodes.Bad kept found) = Failed count

-- The event that is told: of a change that was made one of this kind, if any; where a disk failed a Halt; and else none.
abbrev pub change_kind : ℕ → Option EventKind → Result (Unit {0}) ChangeRefusal → Option EventKind
change_kind dn kind (Ok it) = kind
change_kind dn kind (Err Stopped) = None
change_kind dn kind (Err (Halted count)) = None
change_kind dn kind (Err (Failed count)) = Some (Halt (Datanode dn) count)
change_kind dn kind (Err OutOfMemory) = None

-- what the datanode's seat has given then
abbrev pub with_given : ℕ → Option EventKind → List Event → List Event
with_given dn None mine = mine
with_given dn (Some kind) mine = mine ++ by_node dn kind ∷ []

-- the event, if any, stands behind what two seats had seen
abbrev pub IsGiven : ℕ → Option EventKind → List Event → List Event → List Event → Type 0
IsGiven dn None seen other after = BeginsWith after seen
IsGiven dn (Some kind) seen other after = IsAppended (by_node dn kind) seen other after

-- For private calls: it is a note, of no bad chunk, of no line's command and of no Put.
pub record IsNoteOfChange (kind : EventKind) : Type 0 where
  pub note : IsNote kind
  pub no_bad : is_bad kind ≡ false
  pub uncommanded : IsUncommanded kind
  pub unput : (story : List Event) → PutsUntold kind story

-- What came of a change that is told by an event of this kind, or by none: for the datanode, and for its seat, where another seat
-- had seen this.
pub record ComesOf {D : Type 0} (told : D → Option (List ℕ)) (clock : D → ℕ) (image : D → Images) (faults : D → ℕ) (Coherent : Type 0)
    (opening : Opening) (bytes : OpeningBytes) (script : Script) (loaded : Node → ℕ) (kind : Option EventKind) (other : List Event)
    (view later : SeatView) (old new : State D) (came : Result (Unit {0}) ChangeRefusal) : Type 0 where
  pub number : later.dn ≡ view.dn
  pub last : later.last ≡ view.last
  pub given : IsGiven view.dn (change_kind view.dn kind came) view.seen other later.seen
  pub mine : later.mine ≡ with_given view.dn (change_kind view.dn kind came) view.mine
  pub kept : IsKept Coherent opening bytes script later
  pub refused : IfErr came (IsRefusedFor told clock image faults old new)
  pub written : new.shelf.written ≡ old.shelf.written
  pub stands : StandsFor told clock image faults Coherent opening bytes script loaded later new

module _ {T : Type 0} {told : Ghosts T Event} where
  -- another seat has seen this, and nothing else of it has changed
  pub record HasSeenIt (story : List Event) (old new : Seat T Event told) : Type 0 where
    pub same : IsSameSeat old new
    pub free : taken_of new ≡ None
    pub begins : BeginsWith (seen_of new) (seen_of old)
    pub seen : seen_of new ≡ story
    pub mine : mine_of new ≡ mine_of old
    pub room : room_of new ≡ room_of old
