-- What stands where a stripe is to be granted blocks for a line, and what is known where it isn't.
use Rattle.std.specs.Prelude.{◌≡◌, ◌≢◌, ℕ, ◌≤◌, false, List, [], ◌∷◌, length, drop, Some, Contains, IsSome}
use Rattle.std.specs.FinMap.{get}
use Rattle.oz_command.specs.declared.command.AdminCommand.TheVariants.{Drain}
use Rattle.oz_command.specs.declared.command.Command.TheVariants.{Admin}
use Rattle.oz_core.specs.declared.event.Event.{Event}
use Rattle.oz_core.specs.declared.event.EventKind.TheVariants.{Grant}
use Rattle.oz_core.specs.declared.opening.Opening.{Opening}
use Rattle.oz_core.specs.Asks.{last_ask}
use Rattle.oz_core.specs.Contents.{OpeningBytes}
use Rattle.oz_core.specs.Due.{IsDue}
use Rattle.oz_core.specs.Manager.{asked_late}
use Rattle.oz_core.specs.Scm.{containers}
use Rattle.oz_core.specs.Seats.{scm_seat, stripe_seat}
use Rattle.oz_script.specs.declared.lines.script.Line.{Line}
use Rattle.oz_script.specs.declared.lines.script.Script.{Script}
use Rattle.oz_requests.specs.declared.answer.Answer.{Answer}
use Rattle.oz_requests.specs.declared.answer.Answer.TheVariants as answers
use Rattle.oz_requests.specs.declared.request.AskId.{AskId}
use Rattle.oz_requests.specs.declared.request.Exclude.{Exclude}
use Rattle.oz_underway.specs.granted.Empty.{IsPoolEmpty}
use Rattle.oz_scm.specs.declared.fault.GrantFault.{GrantFault}
use Rattle.oz_scm.specs.declared.fault.GrantFault.TheVariants as faults
use Rattle.oz_scm_events.specs.Granted.{by_scm}
use Rattle.oz_asker.specs.declared.telling.still.Still.{Still}
use Rattle.oz_asker.specs.declared.telling.still.Still.TheVariants as rests
use Rattle.oz_asker.specs.telling.Still.{AllStandStill, StandsStill}
use Rattle.oz_turn.specs.Told.{BeginsWith}
use Rattle.oz_underway.specs.GoingOn.{FromHereOn}
use Rattle.oz_line_blocks.specs.declared.granting.granting.Granting.{Granting}
use Rattle.oz_line_blocks.specs.declared.granting.granting.Granting.TheVariants.{Granted, Moved, Refused}

-- At the end of a story with which what was seen begins, and which has so many events or more, the stripe had no block for
-- the id, which asked in time, and excludes these.
pub record WasEmpty (opening : Opening) (seen : List Event) (place : ℕ) (id : AskId) (stripe : ℕ) (exclude : Exclude)
    : Type 0 where
  pub story : List Event
  pub begins : BeginsWith seen story
  pub reached : place ≤ length story
  pub in_time : asked_late id story ≡ false
  pub empty : IsPoolEmpty opening story id stripe
  pub its : exclude ≡ empty.exclude

-- each container that is excluded was made
abbrev pub AreMade : Opening → List Event → Exclude → Type 0
AreMade opening story exclude =
    (number : ℕ) → Contains exclude.containers number → IsSome (get (containers opening story) number)

-- why the storage container manager grants nothing, as a line is told it
abbrev pub answer_of : GrantFault → Answer
answer_of (faults.Stopped count) = answers.ScmStopped
answer_of faults.NoPipeline = answers.NoPipeline
answer_of faults.Excluded = answers.NoQuorum
answer_of (faults.IdsSpent next count) = answers.IdsSpent
answer_of faults.OutOfMemory = answers.OutOfMemory

-- the seats that have to stand still for it: the storage container manager's, and the stripe's
abbrev pub stills_of : ℕ → ℕ → ℕ → List Still
stills_of length stripe place =
    rests.Seat scm_seat length ∷ rests.Seat (stripe_seat stripe) place ∷ []

module _ (Coherent : Type 0) (opening : Opening) (bytes : OpeningBytes) (script : Script) (seen : List Event) where
  -- From here on the answer is due to the id's line, as long as that is what it asked last and the seats stand still. A
  -- line that drains asks for no block.
  abbrev pub IsDueWhileStill : AskId → Answer → List Still → Type 0
  IsDueWhileStill id answer stills =
      (line : Line) → line.client ≡ id.client → line.number ≡ id.line → line.command ≢ Admin Drain
      → FromHereOn Coherent opening bytes script seen (λ story. last_ask id.client id.line story ≡ Some id
      → AllStandStill story stills → IsDue opening bytes script story line answer)

  -- A Grant to the stripe stands in the story, and where the disks agree it came behind the place.
  pub record WasGrantedSince (place stripe : ℕ) : Type 0 where
    pub container : ℕ
    pub pipeline : ℕ
    pub first : ℕ
    pub count : ℕ
    pub stands : Contains seen (by_scm (Grant stripe container pipeline first count))
    pub since : Coherent → Contains (drop place seen) (by_scm (Grant stripe container pipeline first count))

  -- What is known then: of what was granted, that it came since the stripe had none.
  abbrev pub IsKnownThen : ℕ → AskId → ℕ → Granting → Type 0
  IsKnownThen place id stripe Granted = WasGrantedSince place stripe
  IsKnownThen place id stripe Moved = StandsStill seen (rests.Seat scm_seat place) → ⊥
  IsKnownThen place id stripe (Refused answer stills) = Coherent → IsDueWhileStill id answer stills
