-- What a command comes to, from what the seats have told.
use Rattle.std.proofs.Common.{◌≡◌, ℕ, Bool, true, false, ◌==◌, cond, List, [], ◌∷◌, ◌++◌, Option, None, Some, Ok, eq-eqb, refl, sym, ap, ◌∙◌, append_assoc}
use Rattle.std.specs.Prelude.{not, slice_set}
use Rattle.oz_buffer.specs.Buffer.{AllFollow, Follows}
use Rattle.oz_buffer.specs.laws.Following.{told-push}
use Rattle.oz_core.specs.declared.event.Event.{Event}
use Rattle.oz_core.specs.declared.opening.Opening.{Opening}
use Rattle.oz_core.specs.Contents.{OpeningBytes}
use Rattle.oz_core.specs.Nodes.{is_running}
use Rattle.oz_core.specs.Scm.{is_up, up_or_down}
use Rattle.oz_core.specs.Seats.{datanode_seat, scm_seat}
use Rattle.oz_core.specs.Stories.{newer}
use Rattle.oz_script.specs.declared.lines.script.Script.{Script}
use Rattle.oz_node_events.specs.Beside.{ShareAPlace}
use Rattle.oz_node_events.specs.NodeSeat.{IsAppended}
use Rattle.oz_scm.specs.Scm.{State}
use Rattle.oz_scm_events.specs.Granted.{by_scm}
use Rattle.oz_scm_events.specs.Tracked.{IsTracked, up_event}
use Rattle.oz_turn.specs.Told.{own_entries, BeginsWith}
use Rattle.oz_node_events.specs.Commands.{run_event}
use Rattle.oz_node_events.specs.Led.{done_kind}
use Rattle.oz_node_admin.specs.Commands.{HasBeen, IsAsCommanded, is_wanted, run_done}

pub begins_through : (a b c : List Event) → BeginsWith a b → BeginsWith b c → BeginsWith a c
begins_through a b c first then = (then.0 ++ first.0, first.1 ∙ (ap (λ l. l ++ first.0) then.1 ∙ append_assoc c then.0 first.0))

-- behind an event that was appended the seat has seen what it had seen
pub appended_on : (event : Event) (seen other after : List Event) → IsAppended event seen other after → BeginsWith after seen
appended_on event seen other after told =
    begins_through after told.before seen (event ∷ told.goes_on.0, told.goes_on.1 ∙ append_assoc told.before (event ∷ []) told.goes_on.0) told.begins

-- a datanode that runs isn't stopped by a line
pub runs_back : (runs : Bool) → not (not runs) ≡ runs
runs_back true = refl
runs_back false = refl

-- behind an Up or a Down the datanode is taken for so
up_told : (dn : ℕ) (up : Bool) → up_or_down dn (up_event dn up) ≡ cond (dn == dn) (Some up) None
up_told dn true = refl
up_told dn false = refl

up_now : (dn : ℕ) (up : Bool) (mine : List Event) → is_up dn (mine ++ by_scm (up_event dn up) ∷ []) ≡ up
up_now dn up mine =
    told-push (up_or_down dn) true mine (by_scm (up_event dn up))
    ∙ (ap (λ (o : Option Bool). newer o (is_up dn mine)) (up_told dn up)
    ∙ ap (λ (t : Bool). newer (cond t (Some up) None) (is_up dn mine)) (eq-eqb dn dn refl))

pub tracked_up : (dn : ℕ) (up changed : Bool) (mine after : List Event) → IsTracked {E = Unit {0}} dn up mine after (Ok changed) → is_up dn after ≡ up
tracked_up dn up true mine after told = ap (is_up dn) told.1 ∙ up_now dn up mine
tracked_up dn up false mine after told = ap (is_up dn) told.1 ∙ told.0

as_commanded : (dn : ℕ) (runs : Bool) (place : List Event) → is_running dn place ≡ runs → is_up dn place ≡ runs → IsAsCommanded dn runs place
as_commanded dn true place running up = record { runs = running; up = up }
as_commanded dn false place running up = record { stands_still = running; down = up }

-- a storage container manager that takes a datanode for up or down
abbrev with_up : {S : Type 0} → State S → ℕ → Bool → State S
with_up scm dn up = record scm { up = slice_set scm.up dn up }

pub scm_as : {S : Type 0} (after old before : State S) (one other : ℕ) (up : Bool) → after ≡ record old { up = slice_set old.up one up } → old ≡ before → one ≡ other
    → after ≡ record before { up = slice_set before.up other up }
scm_as {S} after old before one other up is same number =
    is ∙ (ap (λ (n : ℕ). with_up old n up) number ∙ ap (λ (s : State S). with_up s other up) same)

module _ (Coherent : Type 0) (opening : Opening) (bytes : OpeningBytes) (script : Script) where
  abbrev All : List Event → Type 0
  All = AllFollow (Follows Coherent opening bytes script) []

  -- a place since more was seen is one since less was
  pub has_been_since : (dn : ℕ) (runs : Bool) (before more story : List Event) → BeginsWith more before → HasBeen Coherent dn runs more story → HasBeen Coherent dn runs before story
  has_been_since dn runs before more story begins been =
      record { place = been.place; since = begins_through been.place more before been.since begins; within = been.within; held = been.held }

  -- the place at which both have told
  pub has_been : (dn : ℕ) (runs changed : Bool) (before mine of_scm_before of_scm seen story : List Event) → ShareAPlace All dn before mine of_scm story → BeginsWith before seen
      → ((place : List Event) → Coherent → All place → is_running dn place ≡ is_running dn (own_entries (λ (event : Event). event.seat) (datanode_seat dn) place))
      → ((place : List Event) → Coherent → All place → is_up dn place ≡ is_up dn (own_entries (λ (event : Event). event.seat) scm_seat place))
      → is_running dn mine ≡ runs → IsTracked {E = Unit {0}} dn runs of_scm_before of_scm (Ok changed) → HasBeen Coherent dn runs seen story
  has_been dn runs changed before mine of_scm_before of_scm seen story shared begins running_own up_own running told = record {
    place = shared.place;
    since = begins_through shared.place before seen shared.since begins;
    within = shared.within;
    held = λ coherent. as_commanded dn runs shared.place
        (running_own shared.place coherent shared.follow ∙ (ap (is_running dn) shared.its ∙ running))
        (up_own shared.place coherent shared.follow ∙ (ap (is_up dn) shared.of_the_scm ∙ tracked_up dn runs changed of_scm_before of_scm told));
  }

-- what is done to have it run is told by its Start, and to have it stand still by its Stop
pub run_kind : (dn : ℕ) (runs : Bool) → done_kind dn (run_done runs) ≡ run_event dn runs
run_kind dn true = refl
run_kind dn false = refl

-- whether it is to be done: where a line had stopped it and it is to run, or the other way round
pub wanted_where : (runs stopped : Bool) → stopped ≡ runs → is_wanted runs stopped ≡ true
wanted_where true stopped is = is
wanted_where false stopped is = ap not is

pub unwanted_where : (runs stopped : Bool) → not stopped ≡ runs → is_wanted runs stopped ≡ false
unwanted_where true stopped is = sym (runs_back stopped) ∙ ap not is
unwanted_where false stopped is = is
