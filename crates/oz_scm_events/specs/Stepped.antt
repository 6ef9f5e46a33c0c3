-- When a container may go on to another state, and which event comes of it.
use Rattle.std.specs.Prelude.{◌≡◌, ℕ, Bool, List, Option, Some, None, Result, Ok, Err, if◌then◌else◌}
use Rattle.std.specs.FinMap.{get}
use Rattle.std.specs.Option.{option_map}
use Rattle.oz_command.specs.declared.command.AdminCommand.TheVariants as admin
use Rattle.oz_container.specs.declared.state.Event.{Event as Step}
use Rattle.oz_container.specs.declared.state.Event.TheVariants as step
use Rattle.oz_container.specs.declared.state.State.{State}
use Rattle.oz_container.specs.Steps.{next}
use Rattle.oz_core.specs.declared.event.Event.{Event}
use Rattle.oz_core.specs.declared.event.EventKind.{EventKind}
use Rattle.oz_core.specs.declared.event.EventKind.TheVariants as events
use Rattle.oz_core.specs.declared.event.Node.TheVariants.{Scm}
use Rattle.oz_core.specs.declared.opening.Container.{Container}
use Rattle.oz_core.specs.declared.opening.Opening.{Opening}
use Rattle.oz_core.specs.Fits.{IsAtWork}
use Rattle.oz_core.specs.Law.{AllowsStep}
use Rattle.oz_core.specs.Manager.{halt_of}
use Rattle.oz_core.specs.Scm.{containers}
use Rattle.oz_core.specs.Seats.{scm_seat}
use Rattle.oz_scm.specs.declared.fault.ApplyFault.{ApplyFault}
use Rattle.oz_scm.specs.declared.fault.ApplyFault.TheVariants as applying
use Rattle.oz_scm_events.specs.declared.stepping.StepFault.{StepFault}
use Rattle.oz_scm_events.specs.declared.stepping.StepFault.TheVariants.{Stopped, WrongState, OutOfMemory}
use Rattle.oz_scm_events.specs.Granted.{with_told}
use Rattle.oz_script.specs.declared.lines.script.Script.{Script}
use Rattle.oz_turn.specs.Told.{own_entries, BeginsWith}

-- A line for the step is at work, where a step is taken for a line alone: a container is closed for an admin close, and
-- deleted for a drain.
abbrev pub IsForALine : Script → List Event → Step → Type 0
IsForALine script place step.Finalize = IsAtWork script place admin.Close
IsForALine script place step.QuasiClose = Unit {0}
IsForALine script place step.Close = Unit {0}
IsForALine script place step.ForceClose = Unit {0}
IsForALine script place step.Delete = IsAtWork script place admin.Drain
IsForALine script place step.Cleanup = Unit {0}

-- A step may be taken: at one place that was seen, since which the storage container manager gave nothing, what it wants of
-- the members held, and a line for it was at work.
pub record MayStep (opening : Opening) (script : Script) (seen mine : List Event) (number : ℕ) (by : Step)
    : Type 0 where
  pub place : List Event
  pub begins : BeginsWith seen place
  pub since : own_entries (λ (event : Event). event.seat) scm_seat place ≡ mine
  pub allowed : AllowsStep opening place number by
  pub for_a_line : IsForALine script place by

-- what is told of a call that is to lead a container on: the state that it came to, or that the disk failed
abbrev pub told_of_step : ℕ → Result State StepFault → Option EventKind
told_of_step container (Ok state) = Some (events.Closed container state)
told_of_step container (Err (Stopped count)) = Some (events.Halt Scm count)
told_of_step container (Err (WrongState state event)) = None
told_of_step container (Err OutOfMemory) = None

-- the events that it gave, after such a call; where it had stopped before, nothing is told
abbrev pub own_stepped : Bool → ℕ → List Event → Result State StepFault → List Event
own_stepped stopped container mine result = if stopped then mine else with_told (told_of_step container result) mine

-- what the storage container manager answers, as its seat does
abbrev pub stepped_as : Result State ApplyFault → Result State StepFault
stepped_as (Ok state) = Ok state
stepped_as (Err (applying.Stopped count)) = Err (Stopped count)
stepped_as (Err (applying.WrongState state event)) = Err (WrongState state event)

-- the state of a container by the story
abbrev pub state_told : Opening → List Event → ℕ → Option State
state_told opening story number =
    option_map (λ (container : Container). container.state) (get (containers opening story) number)

-- What a refusal says of the story: the storage container manager halted with this count; or it didn't, and the container is
-- in this state, which doesn't allow the event. That memory is wanted says nothing.
abbrev pub IsStepRefusal : Opening → List Event → ℕ → Step → StepFault → Type 0
IsStepRefusal opening story number event (Stopped count) = halt_of Scm story ≡ Some count
IsStepRefusal opening story number event (WrongState state of) =
    (halt_of Scm story ≡ None) × (state_told opening story number ≡ Some state) × (of ≡ event)
    × (next state event ≡ None)
IsStepRefusal opening story number event OutOfMemory = Unit {0}
