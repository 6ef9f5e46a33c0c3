-- What who has something done to a datanode has seen then.
use Rattle.std.specs.Prelude.{◌≡◌, ℕ, ◌≤◌, true, false, List, Result, Ok, Err, Some, slice_index}
use Rattle.oz_core.specs.declared.event.Event.{Event}
use Rattle.oz_core.specs.declared.event.EventKind.TheVariants.{Wipe}
use Rattle.oz_core.specs.declared.event.Node.TheVariants.{Datanode}
use Rattle.oz_core.specs.declared.opening.Opening.{Opening}
use Rattle.oz_core.specs.Contents.{OpeningBytes}
use Rattle.oz_core.specs.Manager.{halt_of}
use Rattle.oz_script.specs.declared.lines.script.Line.{Line}
use Rattle.oz_script.specs.declared.lines.script.Script.{Script}
use Rattle.oz_node_events.specs.declared.command.NodeCommand.{NodeCommand}
use Rattle.oz_node_events.specs.declared.command.NodeCommand.TheVariants as command
use Rattle.oz_node_events.specs.Led.{HasLed}
use Rattle.oz_node_events.specs.NodeSeat.{IsKept, SeatView}
use Rattle.oz_node_admin.specs.declared.fault.AdminFault.{AdminFault}
use Rattle.oz_node_admin.specs.declared.fault.AdminFault.TheVariants.{Halted, OutOfMemory, Repeated}
use Rattle.oz_node_admin.specs.Commands.{HasBeen}
use Rattle.oz_node_admin.specs.Wipes.{HasTold}

-- at a place since this was seen, and in the story, it was done
abbrev pub WasDone : Type 0 → ℕ → NodeCommand → List Event → List Event → Type 0
WasDone Coherent dn command.Stop before story = HasBeen Coherent dn false before story
WasDone Coherent dn command.Start before story = HasBeen Coherent dn true before story
WasDone Coherent dn command.Wipe before story = HasTold Coherent dn (Wipe dn) before story

module _ (Coherent : Type 0) (opening : Opening) (bytes : OpeningBytes) (script : Script) where
  -- The line, or a later one of its client, had something done to the datanode before, as its seat has it.
  pub record WasLed (dn : ℕ) (line : Line) : Type 0 where
    pub kept : SeatView
    pub number : kept.dn ≡ dn
    pub is : IsKept Coherent opening bytes script kept
    pub not_behind : line.number ≤ slice_index kept.last line.client
    pub led : Coherent → HasLed script dn kept.seen kept.mine line.client line.number

  -- by the answer: it was done, or the datanode's Halt is seen, or it was led before; of want of memory nothing is known
  abbrev pub CameOf : ℕ → NodeCommand → Line → List Event → List Event → Result (Unit {0}) AdminFault → Type 0
  CameOf dn done line before story (Ok it) = WasDone Coherent dn done before story
  CameOf dn done line before story (Err (Halted count)) = halt_of (Datanode dn) story ≡ Some count
  CameOf dn done line before story (Err Repeated) = WasLed dn line
  CameOf dn done line before story (Err OutOfMemory) = Unit {0}
