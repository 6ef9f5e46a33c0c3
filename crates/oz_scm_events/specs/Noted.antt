-- What is told of the log of deleted blocks: an acknowledgement, a retirement.
use Rattle.std.specs.Prelude.{◌≡◌, ℕ, Bool, false, List, Option, Some, None, Result, Ok, Err, if◌then◌else◌}
use Rattle.oz_core.specs.declared.event.Event.{Event}
use Rattle.oz_core.specs.declared.event.EventKind.{EventKind}
use Rattle.oz_core.specs.declared.event.EventKind.TheVariants as events
use Rattle.oz_core.specs.declared.event.Node.TheVariants.{Scm}
use Rattle.oz_core.specs.Manager.{halt_of}
use Rattle.oz_scm_events.specs.declared.acking.AckFault.{AckFault}
use Rattle.oz_scm_events.specs.declared.acking.AckFault.TheVariants.{Stopped, NotDue, OutOfMemory}
use Rattle.oz_scm_events.specs.Granted.{with_told}

-- what the storage container manager answers, as its seat does
abbrev pub noted_as : Result (Unit {0}) ℕ → Result (Unit {0}) AckFault
noted_as (Ok done) = Ok done
noted_as (Err count) = Err (Stopped count)

-- what is told of a call that is to note this: that, or that the disk failed
abbrev pub told_of_note : EventKind → Result (Unit {0}) AckFault → Option EventKind
told_of_note kind (Ok done) = Some kind
told_of_note kind (Err (Stopped count)) = Some (events.Halt Scm count)
told_of_note kind (Err NotDue) = None
told_of_note kind (Err OutOfMemory) = None

-- the events that it gave, after such a call; where it had stopped before, nothing is told
abbrev pub own_noted : Bool → EventKind → List Event → Result (Unit {0}) AckFault → List Event
own_noted stopped kind mine result = if stopped then mine else with_told (told_of_note kind result) mine

-- What a refusal says: the storage container manager halted with this count; or it didn't, and by the log this isn't due.
-- That memory is wanted says nothing.
abbrev pub IsNoteRefusal : List Event → Bool → AckFault → Type 0
IsNoteRefusal story due (Stopped count) = halt_of Scm story ≡ Some count
IsNoteRefusal story due NotDue = (halt_of Scm story ≡ None) × (due ≡ false)
IsNoteRefusal story due OutOfMemory = Unit {0}
