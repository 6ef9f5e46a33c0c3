-- What a call does that is to lead a container on to another state, whatever comes of it.
use Rattle.std.specs.Prelude.{◌≡◌, ◌⊎◌, ℕ, ◌+◌, ◌≤◌, Bool, true, false, List, [], ◌∷◌, ◌++◌, Some, None, Result, Ok, Err}
use Rattle.std.specs.Prelude.{IfOk, IfErr, IfSome, OnOk, OnErr}
use Rattle.oz_container.specs.Steps.{next}
use Rattle.oz_container.specs.declared.state.Event.{Event}
use Rattle.oz_container.specs.declared.state.State.{State as Reached}
use Rattle.oz_scm.specs.declared.grants.entry.Entry.TheVariants.{Stepped}
use Rattle.oz_scm.specs.grants.Entries.{entry_bytes}
use Rattle.oz_scm.specs.grants.Made.{Made, MayStep, after_step, state_at}
use Rattle.oz_journal.specs.Grammar.{IsJournal, TellsBodies}
use Rattle.oz_world.specs.Disk.{Seen, TellsAsBefore}
use Rattle.oz_world.specs.Faults.{Rose}
use Rattle.oz_world.specs.Moments.{Elapses, LeavesOnly}
use Rattle.oz_scm.specs.declared.fault.ApplyFault.{ApplyFault}
use Rattle.oz_scm.specs.declared.fault.ApplyFault.TheVariants.{Stopped, WrongState}
use Rattle.oz_scm.specs.Scm.{State, StandsFor}

-- why it doesn't go on: the event isn't possible in the state that it is in; the other says nothing of this
abbrev pub IsWrongFor : Made → ℕ → Event → ApplyFault → Type 0
IsWrongFor made container event (WrongState state of) =
    (state_at made.containers container ≡ Some state) × (of ≡ event) × (next state event ≡ None)
IsWrongFor made container event (Stopped count) = Unit {0}

-- the call answers that it is stopped
abbrev pub says_halted : {T : Type 0} → Result T ApplyFault → Bool
says_halted (Ok x) = false
says_halted (Err (Stopped count)) = true
says_halted (Err (WrongState state event)) = false

-- the bodies, and the step behind them
abbrev pub with_step : List (List ℕ) → ℕ → Event → List (List ℕ)
with_step bodies container event = bodies ++ entry_bytes (Stepped container event) ∷ []

-- bytes that stand for these bodies, or for these and a step that was possible
abbrev pub IsBeforeOrStepped : Made → ℕ → Event → List (List ℕ) → List ℕ → Type 0
IsBeforeOrStepped made container event bodies left =
    IsJournal left bodies ⊎ (MayStep made container event × IsJournal left (with_step bodies container event))

-- bytes from which the same is loaded, or what a step that was possible makes of it
abbrev pub StandsOrStepped : Made → ℕ → Event → List ℕ → Type 0
StandsOrStepped made container event left =
    StandsFor made.nodes left made
    ⊎ (MayStep made container event × StandsFor made.nodes left (after_step container event made))

-- A call that is to lead a container on by an event.
pub record Applies {D : Type 0} (container : ℕ) (event : Event) (old new : State D) (before after : Seen)
    (result : Result Reached ApplyFault) : Type 0 where
  -- Where it succeeds the container is in the state to which the event leads, by one body more, which is stable.
  pub reached : IfOk result (λ state. (from : Reached) × (state_at old.made.containers container ≡ Some from)
      × (next from event ≡ Some state))
  pub made : OnOk result (new.made ≡ after_step container event old.made)
  pub tells : (bodies : List (List ℕ)) → TellsBodies before.told bodies
      → OnOk result (TellsBodies after.told (with_step bodies container event))
  pub acknowledged : (bodies : List (List ℕ)) → TellsBodies before.told bodies
      → OnOk result ((left : List ℕ) → after.image after.clock left → IsJournal left (with_step bodies container event))
  pub moments : OnOk result (after.clock ≡ before.clock + 4)
  -- Where the event isn't possible it says so, and only there, and nothing changes at all.
  pub wrong : old.stopped ≡ false → (from : Reached) → state_at old.made.containers container ≡ Some from
      → next from event ≡ None → result ≡ Err (WrongState from event)
  pub refused : IfErr result (IsWrongFor old.made container event)
  pub untouched : OnErr result (says_halted result ≡ false → new ≡ old)
  pub same : OnErr result (new.made ≡ old.made)
  pub ups : new.up ≡ old.up
  -- A stop at any moment of the call leaves the bodies, or these and the one that names the step.
  pub leaves : old.stopped ≡ false → (bodies : List (List ℕ)) → TellsBodies before.told bodies
      → LeavesOnly (IsBeforeOrStepped old.made container event bodies) before.clock after.clock after.image
  pub stands : old.stopped ≡ false → IfSome before.told (λ bytes.
      LeavesOnly (StandsOrStepped old.made container event) before.clock after.clock after.image)
  pub telling : TellsAsBefore before.told after.told
  pub time : Elapses before.clock after.clock before.image after.image
  -- It answers that it is stopped where it was, and then nothing changes at all, and where the disk failed in the call.
  pub stops : new.stopped ≡ says_halted result
  pub still : old.stopped ≡ true → new ≡ old
  pub count : (count : ℕ) → result ≡ Err (Stopped count) → count ≡ after.faults
  pub cause : old.stopped ≡ false → new.stopped ≡ true → Rose before.faults after.faults
  pub never_falls : before.faults ≤ after.faults
