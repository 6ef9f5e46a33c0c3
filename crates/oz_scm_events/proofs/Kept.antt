-- What is kept, from one call to the next.
use Rattle.std.specs.Prelude.{Bool, true, false, if◌then◌else◌, replicate, slice_set, map}
use Rattle.std.specs.List.{range_with_len}
use Rattle.std.specs.Bool.{beq}
use Rattle.std.specs.Option.{option_map}
use Rattle.std.proofs.Common.{◌≡◌, ⊎_elim, ℕ, ◌+◌, ◌<◌, ◌≤◌, List, [], ◌∷◌, ◌++◌, length, Option, None, Some, Result, Ok, Err, IfErr, refl, sym, ap, ◌∙◌, subst, append_assoc, arith}
use Rattle.std.proofs.lemmas.Bool.{false≢true}
use Rattle.std.proofs.lemmas.List.Sums.{fold_push}
use Rattle.oz_buffer.specs.laws.Following.{told-push, untold-push}
use Rattle.oz_container.specs.declared.state.Event.{Event as Step}
use Rattle.oz_container.specs.declared.state.State.{State as Reached}
use Rattle.oz_container.specs.Steps.{next}
use Rattle.oz_core.specs.declared.event.Event.{Event}
use Rattle.oz_core.specs.declared.event.EventKind.{EventKind}
use Rattle.oz_core.specs.declared.event.EventKind.TheVariants as events
use Rattle.oz_core.specs.declared.event.Node.TheVariants.{Scm}
use Rattle.oz_core.specs.declared.opening.Container.{Container}
use Rattle.oz_core.specs.declared.opening.Opening.{Opening}
use Rattle.oz_core.specs.Manager.{halt_count, halt_of}
use Rattle.oz_core.specs.Scm.{acknowledger, containers, containers_after, id_after, logged, logged_number, next_id, is_up, retires, up_or_down, ups}
use Rattle.oz_core.specs.Seats.{scm_seat}
use Rattle.oz_scm.specs.declared.grants.container.Container.{Container as MadeContainer}
use Rattle.oz_scm.specs.declared.grants.entry.Grant.{Grant}
use Rattle.oz_scm.specs.grants.Due.{IsChosen}
use Rattle.oz_scm.specs.grants.Made.{Made, after_grant, after_step, container_at, log_of, state_at}
use Rattle.oz_nodes.specs.Pipelines.{IsAnyUp, IsFree, is_node_up}
use Rattle.oz_requests.specs.declared.request.Exclude.{Exclude}
use Rattle.oz_scm.specs.declared.fault.GrantFault.{GrantFault}
use Rattle.oz_scm.specs.declared.fault.GrantFault.TheVariants.{Stopped, NoPipeline, Excluded, IdsSpent, OutOfMemory}
use Rattle.oz_scm.specs.declared.fault.ApplyFault.{ApplyFault}
use Rattle.oz_scm.specs.declared.fault.ApplyFault.TheVariants as applying
use Rattle.oz_scm.specs.Applying.{Applies}
use Rattle.oz_scm.specs.Granting.{Grants}
use Rattle.oz_scm.specs.Scm.{State}
use Rattle.oz_scm_events.specs.Granted.{by_scm, told_of, with_told, IsRefusal}
use Rattle.oz_scm_events.specs.Kept.{as_told, AreContainers, IsKept, IsLogOf}
use Rattle.oz_scm_events.specs.declared.stepping.StepFault.{StepFault}
use Rattle.oz_scm_events.specs.declared.stepping.StepFault.TheVariants as stepping
use Rattle.oz_scm_events.specs.Left.{IsMadeOf}
use Rattle.oz_scm_events.specs.Stepped.{IsStepRefusal, state_told, stepped_as, told_of_step}
use Rattle.oz_scm_events.specs.Tracked.{up_event}
use Rattle.oz_scm_events.proofs.Log.{log_of_same, quiet_log}
use Rattle.oz_scm_events.proofs.Made.{chosen_there, granted_more, stepped_more}
use Rattle.oz_scm_events.proofs.Ups.{all_up, length_ups, one_of_ups, set_again, ups_after}
use Rattle.oz_turn.specs.Told.{own_entries, BeginsWith}
use Rattle.oz_world.specs.Disk.{Seen}
use Rattle.oz_world.specs.Faults.{Rose}

abbrev granted : ℕ → Grant → Event
granted stripe grant = by_scm (events.Grant stripe grant.container grant.pipeline grant.first grant.count)

abbrev pub known : List Event → List Event
known story = own_entries (λ (event : Event). event.seat) scm_seat story

module _ {D : Type 0} (opening : Opening) (loaded : ℕ) (scm : State D) (faults : ℕ) where
  pub kept_new : (seen mine : List Event) → seen ≡ [] → mine ≡ [] → scm.stopped ≡ false → scm.made.nodes ≡ length opening.nodes → scm.made.next_id ≡ opening.next_id
      → AreContainers scm.made.containers opening.containers → scm.up ≡ replicate (length opening.nodes) true → IsLogOf opening [] (log_of scm.made) → loaded ≤ faults → IsKept opening loaded scm faults seen mine
  kept_new seen mine unseen none running nodes next made up log no_fewer =
      subst (λ (l : List Event). IsKept opening loaded scm faults seen l) (sym none) (subst (λ (l : List Event). IsKept opening loaded scm faults l []) (sym unseen) (record {
        own = refl;
        halt = sym (ap (λ t. if t then Some faults else None) running);
        nodes = nodes;
        next = next;
        made = made;
        up = up ∙ all_up opening;
        log = λ still. log;
        no_fewer = no_fewer;
        rose = λ stopped. absurd (false≢true (sym running ∙ stopped));
      }))

no_fewer_then : (loaded before after : ℕ) → loaded ≤ before → before ≤ after → loaded ≤ after
no_fewer_then loaded before after one two = omega (arith, one, two)

rose_then : (loaded before after : ℕ) → loaded ≤ before → Rose before after → Rose loaded after
rose_then loaded before after less rose = omega (arith, less, rose)

-- ---- an event more

module _ (opening : Opening) (mine : List Event) (kind : EventKind) where
  abbrev more : List Event
  more = mine ++ by_scm kind ∷ []

  pub quiet_next : id_after kind ≡ None → next_id opening more ≡ next_id opening mine
  quiet_next none = untold-push id_after opening.next_id mine (by_scm kind) none

  pub quiet_ups : ((dn : ℕ) → up_or_down dn kind ≡ None) → ups opening more ≡ ups opening mine
  quiet_ups none i = map (λ dn. untold-push (up_or_down dn) true mine (by_scm kind) (none dn) i) (range_with_len 0 (length opening.nodes))

  pub containers_more : containers opening more ≡ containers_after (containers opening mine) kind
  containers_more = fold_push (λ before (event : Event). containers_after before event.kind) opening.containers mine (by_scm kind)

  pub quiet_halt : halt_count Scm kind ≡ None → halt_of Scm more ≡ halt_of Scm mine
  quiet_halt none = untold-push (halt_count Scm) None mine (by_scm kind) none

-- ---- a grant

pub chosen_place : (made : List MadeContainer) (pipeline : ℕ) (excluded : List ℕ) (number : ℕ) → IsChosen made pipeline excluded number → (1 ≤ number) × (number ≤ length made + 1)
chosen_place made pipeline excluded number chosen =
    ⊎_elim (λ it. chosen_there made number it.0.room.container it.0.room.there) (λ it. (omega (arith, it.0), omega (arith, it.0))) chosen

-- ---- what entries make

-- an event that isn't of the log
log_still : (opening : Opening) (story : List Event) (kind : EventKind) (made : Made) → IsLogOf opening story (log_of made) → logged_number kind ≡ None → logged kind ≡ None
    → ((number : ℕ) → acknowledger number kind ≡ None) → ((number : ℕ) → retires number kind ≡ false) → IsLogOf opening (story ++ by_scm kind ∷ []) (log_of made)
log_still opening story kind made is no_number none no_acks no_ends =
    log_of_same opening story (story ++ by_scm kind ∷ []) (log_of made) (quiet_log opening story kind no_number none no_acks no_ends) is

module _ (opening : Opening) (story : List Event) (made : Made) (is : IsMadeOf opening story made) where
  pub made_granted : (stripe : ℕ) (grant : Grant) → 1 ≤ grant.container → grant.container ≤ length made.containers + 1 → IsMadeOf opening (story ++ granted stripe grant ∷ []) (after_grant grant made)
  made_granted stripe grant some within =
      let kind = events.Grant stripe grant.container grant.pipeline grant.first grant.count in
      record {
        nodes = is.nodes;
        next = sym (told-push id_after opening.next_id story (by_scm kind));
        containers = subst (AreContainers (after_grant grant made).containers) (sym (containers_more opening story kind))
            (granted_more made.containers (containers opening story) is.containers grant.container grant.pipeline grant.count some within);
        log = log_still opening story kind made is.log refl refl (λ number. refl) (λ number. refl);
      }

  pub made_stepped : (number : ℕ) (event : Step) (from state : Reached) → state_at made.containers number ≡ Some from → next from event ≡ Some state
      → IsMadeOf opening (story ++ by_scm (events.Closed number state) ∷ []) (after_step number event made)
  made_stepped number event from state in_state leads =
      let kind = events.Closed number state in
      record {
        nodes = is.nodes;
        next = is.next ∙ sym (quiet_next opening story kind refl);
        containers = subst (AreContainers (after_step number event made).containers) (sym (containers_more opening story kind))
            (stepped_more made.containers (containers opening story) is.containers number event from state in_state leads);
        log = log_still opening story kind made is.log refl refl (λ number. refl) (λ number. refl);
      }

pub kept_made : {D : Type 0} {loaded : ℕ} {opening : Opening} {scm : State D} {faults : ℕ} {seen mine : List Event} → IsKept opening loaded scm faults seen mine → scm.stopped ≡ false
    → IsMadeOf opening mine scm.made
kept_made kept running = record { nodes = kept.nodes; next = kept.next; containers = kept.made; log = kept.log running }

-- ---- a call that may fail

module _ {D : Type 0} {loaded : ℕ} (opening : Opening) (old new : State D) (faults faults_after : ℕ) (seen mine seen_after : List Event) (kept : IsKept opening loaded old faults seen mine) (running : old.stopped ≡ false) where
  unhalted : halt_of Scm mine ≡ None
  unhalted = kept.halt ∙ ap (λ t. if t then Some faults else None) running

  no_rise : new.stopped ≡ false → new.stopped ≡ true → Rose loaded faults_after
  no_rise still stopped = absurd (false≢true (sym still ∙ stopped))

  -- one entry more
  pub kept_more : (kind : EventKind) → IsMadeOf opening (mine ++ by_scm kind ∷ []) new.made → halt_count Scm kind ≡ None → ((dn : ℕ) → up_or_down dn kind ≡ None)
      → new.up ≡ old.up → new.stopped ≡ false → faults ≤ faults_after → known seen_after ≡ mine ++ by_scm kind ∷ [] → IsKept opening loaded new faults_after seen_after (mine ++ by_scm kind ∷ [])
  kept_more kind made no_halt no_up up stops no_fall own = record {
    own = own;
    halt = quiet_halt opening mine kind no_halt ∙ unhalted ∙ sym (ap (λ t. if t then Some faults_after else None) stops);
    nodes = made.nodes;
    next = made.next;
    made = made.containers;
    up = up ∙ kept.up ∙ sym (quiet_ups opening mine kind no_up);
    log = λ still. made.log;
    no_fewer = no_fewer_then loaded faults faults_after kept.no_fewer no_fall;
    rose = no_rise stops;
  }

  pub kept_halted : (count : ℕ) → count ≡ faults_after → new.made ≡ old.made → new.up ≡ old.up → new.stopped ≡ true → Rose faults faults_after → faults ≤ faults_after
      → known seen_after ≡ mine ++ by_scm (events.Halt Scm count) ∷ [] → IsKept opening loaded new faults_after seen_after (mine ++ by_scm (events.Halt Scm count) ∷ [])
  kept_halted count counted made up stops rose no_fall own =
      let kind = events.Halt Scm count in
      record {
        own = own;
        halt = told-push (halt_count Scm) None mine (by_scm kind) ∙ ap (λ n. Some n) counted ∙ sym (ap (λ t. if t then Some faults_after else None) stops);
        nodes = ap (λ (made : Made). made.nodes) made ∙ kept.nodes;
        next = ap (λ (made : Made). made.next_id) made ∙ kept.next ∙ sym (quiet_next opening mine kind refl);
        made = subst (λ (made : Made). AreContainers made.containers (containers opening (mine ++ by_scm kind ∷ []))) (sym made)
            (subst (AreContainers old.made.containers) (sym (containers_more opening mine kind)) kept.made);
        up = up ∙ kept.up ∙ sym (quiet_ups opening mine kind (λ dn. refl));
        log = λ still. absurd (false≢true (sym still ∙ stops));
        no_fewer = no_fewer_then loaded faults faults_after kept.no_fewer no_fall;
        rose = λ stopped. rose_then loaded faults faults_after kept.no_fewer rose;
      }

  pub kept_same : new.made ≡ old.made → new.up ≡ old.up → new.stopped ≡ false → faults ≤ faults_after → known seen_after ≡ mine → IsKept opening loaded new faults_after seen_after mine
  kept_same made up still no_fall own = record {
    own = own;
    halt = unhalted ∙ sym (ap (λ t. if t then Some faults_after else None) still);
    nodes = ap (λ (made : Made). made.nodes) made ∙ kept.nodes;
    next = ap (λ (made : Made). made.next_id) made ∙ kept.next;
    made = subst (λ (made : Made). AreContainers made.containers (containers opening mine)) (sym made) kept.made;
    up = up ∙ kept.up;
    log = λ still. subst (λ (made : Made). IsLogOf opening mine (log_of made)) (sym made) (kept.log running);
    no_fewer = no_fewer_then loaded faults faults_after kept.no_fewer no_fall;
    rose = no_rise still;
  }

module _ {D : Type 0} {loaded : ℕ} (opening : Opening) (old new : State D) (stripe : ℕ) (exclude : Exclude) (before after : Seen) (seen mine seen_after mine_after : List Event) (kept : IsKept opening loaded old before.faults seen mine) (running : old.stopped ≡ false) where
  kept_granted : (grant : Grant) → Grants stripe exclude old new before after (Ok grant) → known seen_after ≡ mine ++ granted stripe grant ∷ [] → IsKept opening loaded new after.faults seen_after (mine ++ granted stripe grant ∷ [])
  kept_granted grant grants own =
      let place = chosen_place old.made.containers grant.pipeline exclude.containers grant.container grants.due.chosen in
      kept_more opening old new before.faults after.faults seen mine seen_after kept running (events.Grant stripe grant.container grant.pipeline grant.first grant.count)
      (subst (IsMadeOf opening (mine ++ granted stripe grant ∷ [])) (sym grants.made) (made_granted opening mine old.made (kept_made kept running) stripe grant place.0 place.1))
      refl (λ dn. refl) grants.ups grants.stops grants.never_falls own

  as_before : new.made ≡ old.made → new.up ≡ old.up → new.stopped ≡ false → before.faults ≤ after.faults → known seen_after ≡ mine → IsKept opening loaded new after.faults seen_after mine
  as_before = kept_same opening old new before.faults after.faults seen mine seen_after kept running

  kept_after : (result : Result Grant GrantFault) → Grants stripe exclude old new before after result → known seen_after ≡ with_told (told_of stripe result) mine → IsKept opening loaded new after.faults seen_after (with_told (told_of stripe result) mine)
  kept_after (Ok grant) grants own = kept_granted grant grants own
  kept_after (Err (Stopped count)) grants own =
      kept_halted opening old new before.faults after.faults seen mine seen_after kept running count (grants.count count refl) grants.same grants.ups grants.stops (grants.cause running grants.stops) grants.never_falls own
  kept_after (Err NoPipeline) grants own = as_before grants.same grants.ups grants.stops grants.never_falls own
  kept_after (Err Excluded) grants own = as_before grants.same grants.ups grants.stops grants.never_falls own
  kept_after (Err (IdsSpent next count)) grants own = as_before grants.same grants.ups grants.stops grants.never_falls own
  kept_after (Err OutOfMemory) grants own = as_before grants.same grants.ups grants.stops grants.never_falls own

  pub kept_told : (result : Result Grant GrantFault) → Grants stripe exclude old new before after result → mine_after ≡ with_told (told_of stripe result) mine → known seen_after ≡ mine_after → IsKept opening loaded new after.faults seen_after mine_after
  kept_told result grants told own = subst (λ (l : List Event). IsKept opening loaded new after.faults seen_after l) (sym told) (kept_after result grants (own ∙ told))

-- ---- a step of a container

abbrev back : Result Reached StepFault → Result Reached ApplyFault
back (Ok state) = Ok state
back (Err (stepping.Stopped count)) = Err (applying.Stopped count)
back (Err (stepping.WrongState state event)) = Err (applying.WrongState state event)
back (Err stepping.OutOfMemory) = Err (applying.Stopped 0)

back_is : (answer : Result Reached ApplyFault) → back (stepped_as answer) ≡ answer
back_is (Ok state) = refl
back_is (Err (applying.Stopped count)) = refl
back_is (Err (applying.WrongState state event)) = refl

pub same_answer : (one other : Result Reached ApplyFault) (result : Result Reached StepFault) → result ≡ stepped_as one → result ≡ stepped_as other → one ≡ other
same_answer one other result is too = sym (back_is one) ∙ ap back (sym is ∙ too) ∙ back_is other

module _ {D : Type 0} {loaded : ℕ} (opening : Opening) (old new : State D) (container : ℕ) (event : Step) (before after : Seen) (seen mine seen_after mine_after : List Event) (kept : IsKept opening loaded old before.faults seen mine) (running : old.stopped ≡ false) where
  kept_step : (answer : Result Reached ApplyFault) → Applies container event old new before after answer → known seen_after ≡ with_told (told_of_step container (stepped_as answer)) mine
      → IsKept opening loaded new after.faults seen_after (with_told (told_of_step container (stepped_as answer)) mine)
  kept_step (Ok state) applies own =
      kept_more opening old new before.faults after.faults seen mine seen_after kept running (events.Closed container state)
      (subst (IsMadeOf opening (mine ++ by_scm (events.Closed container state) ∷ [])) (sym applies.made)
      (made_stepped opening mine old.made (kept_made kept running) container event applies.reached.0 state applies.reached.1 applies.reached.2))
      refl (λ dn. refl) applies.ups applies.stops applies.never_falls own
  kept_step (Err (applying.Stopped count)) applies own =
      kept_halted opening old new before.faults after.faults seen mine seen_after kept running count (applies.count count refl) applies.same applies.ups applies.stops (applies.cause running applies.stops) applies.never_falls own
  kept_step (Err (applying.WrongState state of)) applies own =
      kept_same opening old new before.faults after.faults seen mine seen_after kept running applies.same applies.ups applies.stops applies.never_falls own

  pub kept_stepped : (answer : Result Reached ApplyFault) (result : Result Reached StepFault) → result ≡ stepped_as answer → Applies container event old new before after answer
      → mine_after ≡ with_told (told_of_step container result) mine → known seen_after ≡ mine_after → IsKept opening loaded new after.faults seen_after mine_after
  kept_stepped answer result is applies told own =
      let given = told ∙ ap (λ r. with_told (told_of_step container r) mine) is in
      subst (λ (l : List Event). IsKept opening loaded new after.faults seen_after l) (sym given) (kept_step answer applies (own ∙ given))

-- where it had stopped
module _ {D : Type 0} (see : D → Seen) (old new : State D) (container : ℕ) (event : Step) (stopped : old.stopped ≡ true) where
  still_stopped : new ≡ old → new.stopped ≡ false → ⊥
  still_stopped same stops = false≢true (sym stops ∙ ap (λ (s : State D). s.stopped) same ∙ stopped)

  stopped_answer : (answer : Result Reached ApplyFault) → Applies container event old new (see old.disk) (see new.disk) answer → stepped_as answer ≡ Err (stepping.Stopped (see old.disk).faults)
  stopped_answer (Ok state) applies = absurd (still_stopped (applies.still stopped) applies.stops)
  stopped_answer (Err (applying.Stopped count)) applies =
      ap (λ n. Err (stepping.Stopped n)) (applies.count count refl ∙ ap (λ (s : State D). (see s.disk).faults) (applies.still stopped))
  stopped_answer (Err (applying.WrongState state of)) applies = absurd (still_stopped (applies.still stopped) applies.stops)

  pub stopped_as : (answer : Result Reached ApplyFault) (result : Result Reached StepFault) → result ≡ stepped_as answer → Applies container event old new (see old.disk) (see new.disk) answer
      → (new ≡ old) × (result ≡ Err (stepping.Stopped (see old.disk).faults))
  stopped_as answer result is applies = (applies.still stopped, is ∙ stopped_answer answer applies)

  pub stopped_refusal : {loaded : ℕ} (opening : Opening) (seen mine : List Event) → IsKept opening loaded old (see old.disk).faults seen mine → (result : Result Reached StepFault)
      → result ≡ Err (stepping.Stopped (see old.disk).faults) → IfErr result (IsStepRefusal opening mine container event)
  stopped_refusal opening seen mine kept result is =
      subst (λ r. IfErr r (IsStepRefusal opening mine container event)) (sym is) (kept.halt ∙ ap (λ t. if t then Some (see old.disk).faults else None) stopped)

-- ---- refusals

module _ {D : Type 0} {loaded : ℕ} (opening : Opening) (old new : State D) (stripe : ℕ) (exclude : Exclude) (before after : Seen) (seen mine : List Event) (kept : IsKept opening loaded new after.faults seen mine) where
  halted_as : (stopped : Bool) → new.stopped ≡ stopped → halt_of Scm mine ≡ (if stopped then Some after.faults else None)
  halted_as stopped is = kept.halt ∙ ap (λ t. if t then Some after.faults else None) is

  pub says : (result : Result Grant GrantFault) → Grants stripe exclude old new before after result → IfErr result (IsRefusal opening mine exclude)
  says (Ok grant) grants = tt
  says (Err (Stopped count)) grants = halted_as true grants.stops ∙ ap (λ n. Some n) (sym (grants.count count refl))
  says (Err NoPipeline) grants = (halted_as false grants.stops, λ any. grants.refused (subst IsAnyUp (sym (sym grants.ups ∙ kept.up)) any))
  says (Err Excluded) grants = (
    halted_as false grants.stops,
    subst IsAnyUp (sym grants.ups ∙ kept.up) grants.refused.0,
    λ free. grants.refused.1 free.0 (subst (λ (up : List Bool). IsFree up exclude.pipelines free.0) (sym (sym grants.ups ∙ kept.up)) free.1),
  )
  says (Err (IdsSpent next count)) grants =
      let it = grants.refused in (
        halted_as false grants.stops,
        (it.3.0, subst (λ (up : List Bool). IsFree up exclude.pipelines it.3.0) (sym grants.ups ∙ kept.up) it.3.1),
        it.0 ∙ sym (ap (λ (made : Made). made.next_id) grants.same) ∙ kept.next,
        it.1,
        it.2,
      )
  says (Err OutOfMemory) grants = tt

module _ {D : Type 0} {loaded : ℕ} (opening : Opening) (old new : State D) (container : ℕ) (event : Step) (before after : Seen) (seen mine : List Event) (kept : IsKept opening loaded new after.faults seen mine) where
  halts_as : (stopped : Bool) → new.stopped ≡ stopped → halt_of Scm mine ≡ (if stopped then Some after.faults else None)
  halts_as stopped is = kept.halt ∙ ap (λ t. if t then Some after.faults else None) is

  state_is : state_told opening mine container ≡ state_at new.made.containers container
  state_is = ap (option_map (λ (one : Container). one.state)) (kept.made container) ∙ by (container_at new.made.containers container)
    where
      by : (o : Option MadeContainer) → option_map (λ (one : Container). one.state) (option_map as_told o) ≡ option_map (λ (one : MadeContainer). one.state) o
      by None = refl
      by (Some one) = refl

  says_step : (answer : Result Reached ApplyFault) → Applies container event old new before after answer → IfErr (stepped_as answer) (IsStepRefusal opening mine container event)
  says_step (Ok state) applies = tt
  says_step (Err (applying.Stopped count)) applies = halts_as true applies.stops ∙ ap (λ n. Some n) (sym (applies.count count refl))
  says_step (Err (applying.WrongState state of)) applies = (
    halts_as false applies.stops,
    state_is ∙ ap (λ (made : Made). state_at made.containers container) applies.same ∙ applies.refused.0,
    applies.refused.1,
    applies.refused.2,
  )

  pub says_stepped : (answer : Result Reached ApplyFault) (result : Result Reached StepFault) → result ≡ stepped_as answer → Applies container event old new before after answer → IfErr result (IsStepRefusal opening mine container event)
  says_stepped answer result is applies = subst (λ r. IfErr r (IsStepRefusal opening mine container event)) (sym is) (says_step answer applies)

-- ---- what the seat sees

module _ {D : Type 0} {loaded : ℕ} (opening : Opening) (scm : State D) (faults : ℕ) where
  -- where it saw more, and gave nothing
  pub kept_seen : (seen mine seen_after mine_after : List Event) → IsKept opening loaded scm faults seen mine → mine_after ≡ mine → known seen_after ≡ mine_after → IsKept opening loaded scm faults seen_after mine_after
  kept_seen seen mine seen_after mine_after kept same own = record {
    own = own;
    halt = ap (halt_of Scm) same ∙ kept.halt;
    nodes = kept.nodes;
    next = kept.next ∙ sym (ap (next_id opening) same);
    made = subst (λ (l : List Event). AreContainers scm.made.containers (containers opening l)) (sym same) kept.made;
    up = kept.up ∙ sym (ap (ups opening) same);
    log = λ running. subst (λ (l : List Event). IsLogOf opening l (log_of scm.made)) (sym same) (kept.log running);
    no_fewer = kept.no_fewer;
    rose = kept.rose;
  }

pub begins_then : (story later seen : List Event) → BeginsWith later story → BeginsWith story seen → BeginsWith later seen
begins_then story later seen goes begins =
    (begins.0 ++ goes.0, goes.1 ∙ (ap (λ l. l ++ goes.0) begins.1 ∙ append_assoc seen begins.0 goes.0))

pub begins_as : (story one other : List Event) → one ≡ other → BeginsWith story one → BeginsWith story other
begins_as story one other same begins = (begins.0, begins.1 ∙ ap (λ (l : List Event). l ++ begins.0) same)

-- ---- a datanode that is taken for up or down

same_bool : (a b : Bool) → beq a b ≡ true → a ≡ b
same_bool true true is = refl
same_bool true false is = absurd (false≢true is)
same_bool false true is = absurd (false≢true is)
same_bool false false is = refl

other_bool : (a b : Bool) → beq a b ≡ false → a ≡ b → ⊥
other_bool true true not is = false≢true (sym not)
other_bool true false not is = false≢true (sym is)
other_bool false true not is = false≢true is
other_bool false false not is = false≢true (sym not)

module _ {D : Type 0} {loaded : ℕ} (opening : Opening) (scm : State D) (faults : ℕ) (seen mine : List Event) (kept : IsKept opening loaded scm faults seen mine) (dn : ℕ) (there : dn < length opening.nodes) where
  pub among_ups : dn < length scm.up
  among_ups = omega (arith, there, ap length kept.up, length_ups opening mine)

  noted : is_node_up scm.up dn ≡ is_up dn mine
  noted = ap (λ up. is_node_up up dn) kept.up ∙ one_of_ups opening mine dn there

  pub so_before : (found up : Bool) → found ≡ is_node_up scm.up dn → beq found up ≡ true → is_up dn mine ≡ up
  so_before found up is same = sym (is ∙ noted) ∙ same_bool found up same

  pub not_before : (found up : Bool) → found ≡ is_node_up scm.up dn → beq found up ≡ false → is_up dn mine ≡ up → ⊥
  not_before found up is other so = other_bool found up other (is ∙ noted ∙ so)

  pub set_same : (up : Bool) → is_up dn mine ≡ up → scm ≡ record scm { up = slice_set scm.up dn up }
  set_same up so =
      let same = ap (λ l. slice_set l dn up) kept.up ∙ set_again opening mine dn up there so ∙ sym kept.up in
      ap (λ l. record scm { up = l }) (sym same)

  quiet_made : (up : Bool) → containers opening (mine ++ by_scm (up_event dn up) ∷ []) ≡ containers opening mine
  quiet_made true = containers_more opening mine (up_event dn true)
  quiet_made false = containers_more opening mine (up_event dn false)

  no_id : (up : Bool) → id_after (up_event dn up) ≡ None
  no_id true = refl
  no_id false = refl

  no_halt : (up : Bool) → halt_count Scm (up_event dn up) ≡ None
  no_halt true = refl
  no_halt false = refl

  log_up : (up : Bool) → IsLogOf opening mine (log_of scm.made) → IsLogOf opening (mine ++ by_scm (up_event dn up) ∷ []) (log_of scm.made)
  log_up true is = log_still opening mine (events.Up dn) scm.made is refl refl (λ number. refl) (λ number. refl)
  log_up false is = log_still opening mine (events.Down dn) scm.made is refl refl (λ number. refl) (λ number. refl)

  kept_up : (up : Bool) (seen_after : List Event) → known seen_after ≡ mine ++ by_scm (up_event dn up) ∷ []
      → IsKept opening loaded (record scm { up = slice_set scm.up dn up }) faults seen_after (mine ++ by_scm (up_event dn up) ∷ [])
  kept_up up seen_after own = record {
    own = own;
    halt = quiet_halt opening mine (up_event dn up) (no_halt up) ∙ kept.halt;
    nodes = kept.nodes;
    next = kept.next ∙ sym (quiet_next opening mine (up_event dn up) (no_id up));
    made = subst (AreContainers scm.made.containers) (sym (quiet_made up)) kept.made;
    up = ap (λ l. slice_set l dn up) kept.up ∙ ups_after opening mine dn up there;
    log = λ running. log_up up (kept.log running);
    no_fewer = kept.no_fewer;
    rose = kept.rose;
  }

  pub kept_tracked : (up : Bool) (new : State D) (seen_after mine_after : List Event) (faults_after : ℕ) → new ≡ record scm { up = slice_set scm.up dn up } → faults_after ≡ faults
      → mine_after ≡ mine ++ by_scm (up_event dn up) ∷ [] → known seen_after ≡ mine_after → IsKept opening loaded new faults_after seen_after mine_after
  kept_tracked up new seen_after mine_after faults_after is still told own =
      subst (λ (n : ℕ). IsKept opening loaded new n seen_after mine_after) (sym still)
      (subst (λ (s : State D). IsKept opening loaded s faults seen_after mine_after) (sym is)
      (subst (λ (l : List Event). IsKept opening loaded (record scm { up = slice_set scm.up dn up }) faults seen_after l) (sym told) (kept_up up seen_after (own ∙ told))))

pub tracked_as : (mine mine_after : List Event) (dn : ℕ) (up : Bool) (kind : EventKind) → kind ≡ up_event dn up → mine_after ≡ mine ++ by_scm kind ∷ [] → mine_after ≡ mine ++ by_scm (up_event dn up) ∷ []
tracked_as mine mine_after dn up kind is told = told ∙ ap (λ k. mine ++ by_scm k ∷ []) is
