-- What comes of having something done to a datanode for a line.
use Rattle.std.specs.Prelude.{◌≡◌, ℕ, Bool, true, false, List, [], ◌∷◌, Option, Result, Ok, Err, slice_set}
use Rattle.oz_core.specs.declared.event.Event.{Event}
use Rattle.oz_core.specs.declared.event.EventKind.{EventKind}
use Rattle.oz_core.specs.declared.event.EventKind.TheVariants.{Halt}
use Rattle.oz_core.specs.declared.event.Node.TheVariants.{Datanode}
use Rattle.oz_core.specs.Asks.{is_told}
use Rattle.oz_datanode.specs.Datanode.{State}
use Rattle.oz_node_events.specs.declared.command.NodeCommand.{NodeCommand}
use Rattle.oz_node_events.specs.declared.command.NodeCommand.TheVariants as command
use Rattle.oz_node_events.specs.declared.command.DoneRefusal.{DoneRefusal}
use Rattle.oz_node_events.specs.declared.command.DoneRefusal.TheVariants.{Halted, Told, OutOfMemory}
use Rattle.oz_node_events.specs.Commands.{HaltsSo, IsWipedSo, by_node}
use Rattle.oz_node_events.specs.Led.{done_kind}
use Rattle.oz_node_events.specs.NodeSeat.{IsAppended}
use Rattle.oz_script.specs.declared.lines.script.Line.{Line}
use Rattle.oz_world.specs.Disk.{Images}

-- a datanode that a line has stopped isn't stopped by one again, and one that isn't stopped isn't started
abbrev pub IsWanted : NodeCommand → Bool → Type 0
IsWanted command.Stop stopped = stopped ≡ false
IsWanted command.Start stopped = stopped ≡ true
IsWanted command.Wipe stopped = Unit {0}

-- it no longer runs, it runs again, or it holds nothing any more
abbrev pub IsDoneSo : {D : Type 0} → (D → Option (List ℕ)) → (D → ℕ) → (D → Images) → (D → ℕ) → Type 0 → NodeCommand → State D
    → State D → Type 0
IsDoneSo told clock image faults Coherent command.Stop old new = new ≡ record old { stopped = true }
IsDoneSo told clock image faults Coherent command.Start old new = new ≡ record old { stopped = false }
IsDoneSo told clock image faults Coherent command.Wipe old new = IsWipedSo told clock image faults Coherent old new

-- It is done; or a disk failed as the datanode was wiped, and so many calls on both have.
abbrev pub EndsSo : {D : Type 0} → (D → Option (List ℕ)) → (D → ℕ) → (D → Images) → (D → ℕ) → Type 0 → NodeCommand → State D
    → State D → Result (Unit {0}) ℕ → Type 0
EndsSo told clock image faults Coherent done old new (Ok it) = IsDoneSo told clock image faults Coherent done old new
EndsSo told clock image faults Coherent done old new (Err count) = (done ≡ command.Wipe) × HaltsSo told faults old new count

-- what is told of that
abbrev pub end_kind : ℕ → NodeCommand → Result (Unit {0}) ℕ → EventKind
end_kind dn done (Ok it) = done_kind dn done
end_kind dn done (Err count) = Halt (Datanode dn) count

-- the same as an answer to who asked for it
abbrev pub refused_by : Result (Unit {0}) ℕ → Result (Unit {0}) DoneRefusal
refused_by (Ok it) = Ok it
refused_by (Err count) = Err (Halted count)

-- a refusal behind which nothing was done
abbrev pub IsUndone : DoneRefusal → Type 0
IsUndone (Halted count) = ⊥
IsUndone Told = Unit {0}
IsUndone OutOfMemory = Unit {0}

-- What was told in the hold of the turn in which this came of it: an event, or none where nothing was done.
abbrev pub told_of : ℕ → NodeCommand → Result (Unit {0}) DoneRefusal → List Event
told_of dn done (Ok it) = by_node dn (done_kind dn done) ∷ []
told_of dn done (Err (Halted count)) = by_node dn (Halt (Datanode dn) count) ∷ []
told_of dn done (Err Told) = []
told_of dn done (Err OutOfMemory) = []

-- whether the line was told its answer at that place: it wasn't where anything was done, and was where it is refused for that
abbrev pub WasTold : Line → List Event → Result (Unit {0}) DoneRefusal → Type 0
WasTold line place (Ok it) = is_told line.client line.number place ≡ false
WasTold line place (Err (Halted count)) = is_told line.client line.number place ≡ false
WasTold line place (Err Told) = is_told line.client line.number place ≡ true
WasTold line place (Err OutOfMemory) = Unit {0}

module _ {D : Type 0} (told : D → Option (List ℕ)) (clock : D → ℕ) (image : D → Images) (faults : D → ℕ) (Coherent : Type 0)
    (done : NodeCommand) (old new : State D) where
  -- what came of the datanode
  abbrev pub LeftSo : Result (Unit {0}) DoneRefusal → Type 0
  LeftSo (Ok it) = IsDoneSo told clock image faults Coherent done old new
  LeftSo (Err (Halted count)) = (done ≡ command.Wipe) × HaltsSo told faults old new count
  LeftSo (Err Told) = new ≡ old
  LeftSo (Err OutOfMemory) = new ≡ old

module _ (dn : ℕ) (done : NodeCommand) (seen other after : List Event) where
  -- the event that was told of it stands behind what two seats had seen
  abbrev pub IsToldSo : Result (Unit {0}) DoneRefusal → Type 0
  IsToldSo (Ok it) = IsAppended (by_node dn (done_kind dn done)) seen other after
  IsToldSo (Err (Halted count)) = IsAppended (by_node dn (Halt (Datanode dn) count)) seen other after
  IsToldSo (Err Told) = Unit {0}
  IsToldSo (Err OutOfMemory) = Unit {0}

-- a line that has something done is the last of its client
abbrev pub last_done : Line → List ℕ → Result (Unit {0}) DoneRefusal → List ℕ
last_done line last (Ok it) = slice_set last line.client line.number
last_done line last (Err refusal) = last
