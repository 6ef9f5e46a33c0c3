-- What is appended may follow.
use Rattle.std.specs.Prelude.{◌==◌, ◌≢◌, Bool, true, false, if◌then◌else◌, Contains, IsSome, IfSome}
use Rattle.std.specs.List.{AllByRecursion}
use Rattle.std.specs.FinMap.{get}
use Rattle.std.specs.Option.{is_some, option_map}
use Rattle.std.proofs.lemmas.Bool.{false≢true}
use Rattle.std.proofs.Common.{◌≡◌, inl, inr, ⊎_elim, ℕ, ◌+◌, ◌<◌, ◌≤◌, List, [], ◌∷◌, length, eq-eqb, Option, None, Some, Result, Ok, Err, refl, sym, ap, ◌∙◌, subst, arith}
use Rattle.oz_buffer.specs.Buffer.{AllFollow, Follows, IsNote}
use Rattle.oz_container.specs.declared.state.Event.{Event as Step}
use Rattle.oz_container.specs.declared.state.Event.TheVariants as step
use Rattle.oz_container.specs.declared.state.State.{State as Reached}
use Rattle.oz_container.specs.declared.state.State.TheVariants as states
use Rattle.oz_container.specs.declared.state.State.TheVariants.{Open}
use Rattle.oz_container.specs.Steps.{next}
use Rattle.oz_core.specs.declared.event.Event.{Event}
use Rattle.oz_core.specs.declared.event.EventKind.{EventKind}
use Rattle.oz_core.specs.declared.event.EventKind.TheVariants as events
use Rattle.oz_core.specs.declared.event.Node.TheVariants.{Scm}
use Rattle.oz_core.specs.declared.opening.Container.{Container}
use Rattle.oz_core.specs.declared.opening.Opening.{Opening}
use Rattle.oz_core.specs.Contents.{OpeningBytes}
use Rattle.oz_core.specs.Fits.{ClosedFits}
use Rattle.oz_core.specs.Law.{AllowsStep, ClosedIsEnabled, GrantIsEnabled, HaltIsEnabled, IsNeeded, IsSinceScm, MayHold}
use Rattle.oz_core.specs.Manager.{halt_of}
use Rattle.oz_core.specs.Nodes.{is_running}
use Rattle.oz_core.specs.Scm.{Containers, containers, next_id, is_up, ups}
use Rattle.oz_core.specs.Seats.{datanode_seat, scm_seat}
use Rattle.oz_scm.specs.declared.grants.container.Container.{Container as MadeContainer}
use Rattle.oz_scm.specs.declared.grants.entry.Grant.{Grant}
use Rattle.oz_scm.specs.grants.Due.{IsChosen}
use Rattle.oz_scm.specs.grants.Made as scm_may
use Rattle.oz_scm.specs.grants.Made.{after_grant, after_step, container_at, log_of, state_at, stepped}
use Rattle.oz_script.specs.declared.lines.script.Script.{Script}
use Rattle.oz_nodes.specs.Pipelines.{IsUp, pipelines_of}
use Rattle.oz_requests.specs.declared.request.Exclude.{Exclude}
use Rattle.oz_scm.specs.declared.fault.GrantFault.{GrantFault}
use Rattle.oz_scm.specs.declared.fault.GrantFault.TheVariants.{Stopped, NoPipeline, Excluded, IdsSpent, OutOfMemory}
use Rattle.oz_scm.specs.declared.fault.ApplyFault.{ApplyFault}
use Rattle.oz_scm.specs.declared.fault.ApplyFault.TheVariants as applying
use Rattle.oz_scm.specs.Applying.{Applies, StandsOrStepped}
use Rattle.oz_scm.specs.Granting.{Grants, IsDue, StandsOrGranted}
use Rattle.oz_scm.specs.Scm.{State, StandsFor}
use Rattle.oz_scm_events.specs.declared.stepping.StepFault.{StepFault}
use Rattle.oz_scm_events.specs.declared.stepping.StepFault.TheVariants as stepping
use Rattle.oz_scm_events.specs.Granted.{by_scm, told_of}
use Rattle.oz_scm_events.specs.Kept.{as_told, AreContainers, IsKept}
use Rattle.oz_scm_events.specs.Left.{IsMadeOf, LoadsAsOrOneMore, ScmHalted}
use Rattle.oz_scm_events.specs.Stepped.{IsForALine, MayStep, stepped_as, told_of_step}
use Rattle.oz_scm_events.specs.Telling.{StandsLast}
use Rattle.oz_scm_events.specs.Tracked.{up_event}
use Rattle.oz_scm_events.proofs.Kept.{begins_then, chosen_place, known, made_granted, made_stepped}
use Rattle.oz_scm_events.proofs.Left.{halts_now}
use Rattle.oz_scm_events.proofs.Log.{SaySame, log_of_same}
use Rattle.oz_scm_events.proofs.Needed.{none_more, others, to_all}
use Rattle.oz_scm_events.proofs.Made.{greatest_is, none_behind}
use Rattle.oz_scm_events.proofs.Telling.{containers_own, halt_own, log_own, next_own, running_own, up_own, ups_own}
use Rattle.oz_scm_events.proofs.Ups.{length_ups}
use Rattle.oz_turn.specs.Told.{own_entries, BeginsWith}
use Rattle.oz_world.specs.Disk.{Seen}
use Rattle.oz_world.specs.Faults.{Rose}

-- ---- the container

may_hold_it : (opening : Opening) (story : List Event) (number pipeline : ℕ) (container : MadeContainer) (o : Option Container) → o ≡ Some (as_told container)
    → container.state ≡ Open → container.granted ≤ 960 → container.pipeline ≡ pipeline → MayHold opening story number pipeline o
may_hold_it opening story number pipeline container o is opened few on = subst (λ (o : Option Container). MayHold opening story number pipeline o) (sym is) (opened, on, few)

module _ (opening : Opening) (story : List Event) (made : List MadeContainer) (are : AreContainers made (containers opening story)) (pipeline : ℕ) (excluded : List ℕ) (number : ℕ) (chosen : IsChosen made pipeline excluded number) where
  pub may_hold : MayHold opening story number pipeline (get (containers opening story) number)
  may_hold =
      ⊎_elim
      (λ it.
      may_hold_it opening story number pipeline it.0.room.container (get (containers opening story) number)
      (are number ∙ ap (option_map as_told) it.0.room.there) it.0.room.opened it.0.room.few it.0.on)
      (λ it.
      subst (λ (o : Option Container). MayHold opening story number pipeline o) (sym (none number it.0))
      (it.0 ∙ ap (λ n. n + 1) (sym (greatest_is made (containers opening story) are))))
      chosen
    where
      no_some : (o : Option Container) → (IsSome o → ⊥) → o ≡ None
      no_some None not = refl
      no_some (Some container) not = absurd (not refl)

      none : (number : ℕ) → number ≡ length made + 1 → get (containers opening story) number ≡ None
      none number next = no_some (get (containers opening story) number) (none_behind made (containers opening story) are number (omega (arith, next)))

  pub allowed : ((other : ℕ) → Contains excluded other → IsSome (get (containers opening story) other)) → Contains excluded number → ⊥
  allowed all among =
      ⊎_elim
      (λ it. it.0.allowed among)
      (λ it. none_behind made (containers opening story) are number (omega (arith, it.0)) (all number among))
      chosen

-- ---- a step

apart : (more : List Event) → AllByRecursion (λ (event : Event). (event.seat == scm_seat) ≡ false) more → AllByRecursion (λ (event : Event). event.seat ≢ scm_seat) more
apart [] all = tt
apart (event ∷ more) all = ((λ same. false≢true (sym all.0 ∙ eq-eqb event.seat scm_seat same)), apart more all.1)

one_in : (made : List MadeContainer) (number : ℕ) (from : Reached) → state_at made number ≡ Some from → (one : MadeContainer) × (container_at made number ≡ Some one) × (one.state ≡ from)
one_in made number from in_state = by (container_at made number) refl
  where
    or_it : Reached → Option Reached → Reached
    or_it other None = other
    or_it other (Some state) = state

    by : (o : Option MadeContainer) → container_at made number ≡ o → (one : MadeContainer) × (container_at made number ≡ Some one) × (one.state ≡ from)
    by None there = absurd (cc (sym (ap (option_map (λ (one : MadeContainer). one.state)) there) ∙ in_state))
    by (Some one) there = (one, there, ap (or_it from) (sym (ap (option_map (λ (one : MadeContainer). one.state)) there) ∙ in_state))

-- the state to which an event leads
abbrev target : Step → Reached
target step.Finalize = states.Closing
target step.QuasiClose = states.QuasiClosed
target step.Close = states.Closed
target step.ForceClose = states.Closed
target step.Delete = states.Deleting
target step.Cleanup = states.Deleted

some_state : (one other : Reached) → Some one ≡ Some other → other ≡ one
some_state one other is = sym (ap (or_it other) is)
  where
    or_it : Reached → Option Reached → Reached
    or_it other None = other
    or_it other (Some state) = state

leads_to : (from : Reached) (event : Step) (state : Reached) → next from event ≡ Some state → state ≡ target event
leads_to states.Open step.Finalize state is = some_state states.Closing state is
leads_to states.Open step.QuasiClose state is = absurd (cc is)
leads_to states.Open step.Close state is = absurd (cc is)
leads_to states.Open step.ForceClose state is = absurd (cc is)
leads_to states.Open step.Delete state is = absurd (cc is)
leads_to states.Open step.Cleanup state is = absurd (cc is)
leads_to states.Closing step.Finalize state is = absurd (cc is)
leads_to states.Closing step.QuasiClose state is = some_state states.QuasiClosed state is
leads_to states.Closing step.Close state is = some_state states.Closed state is
leads_to states.Closing step.ForceClose state is = absurd (cc is)
leads_to states.Closing step.Delete state is = absurd (cc is)
leads_to states.Closing step.Cleanup state is = absurd (cc is)
leads_to states.QuasiClosed step.Finalize state is = absurd (cc is)
leads_to states.QuasiClosed step.QuasiClose state is = absurd (cc is)
leads_to states.QuasiClosed step.Close state is = absurd (cc is)
leads_to states.QuasiClosed step.ForceClose state is = some_state states.Closed state is
leads_to states.QuasiClosed step.Delete state is = absurd (cc is)
leads_to states.QuasiClosed step.Cleanup state is = absurd (cc is)
leads_to states.Closed step.Finalize state is = absurd (cc is)
leads_to states.Closed step.QuasiClose state is = absurd (cc is)
leads_to states.Closed step.Close state is = absurd (cc is)
leads_to states.Closed step.ForceClose state is = absurd (cc is)
leads_to states.Closed step.Delete state is = some_state states.Deleting state is
leads_to states.Closed step.Cleanup state is = absurd (cc is)
leads_to states.Deleting step.Finalize state is = absurd (cc is)
leads_to states.Deleting step.QuasiClose state is = absurd (cc is)
leads_to states.Deleting step.Close state is = absurd (cc is)
leads_to states.Deleting step.ForceClose state is = absurd (cc is)
leads_to states.Deleting step.Delete state is = absurd (cc is)
leads_to states.Deleting step.Cleanup state is = some_state states.Deleted state is
leads_to states.Deleted step.Finalize state is = absurd (cc is)
leads_to states.Deleted step.QuasiClose state is = absurd (cc is)
leads_to states.Deleted step.Close state is = absurd (cc is)
leads_to states.Deleted step.ForceClose state is = absurd (cc is)
leads_to states.Deleted step.Delete state is = absurd (cc is)
leads_to states.Deleted step.Cleanup state is = absurd (cc is)

fits_by : (opening : Opening) (script : Script) (story place : List Event) (number : ℕ) → IsSinceScm story place → (event : Step) → AllowsStep opening place number event → IsForALine script place event
    → ClosedFits opening script story number (target event)
fits_by opening script story place number since step.Finalize may at_work = record { place = place; since = since; allowed = may; at_work = at_work }
fits_by opening script story place number since step.QuasiClose may at_work = tt
fits_by opening script story place number since step.Close may at_work = tt
fits_by opening script story place number since step.ForceClose may at_work = tt
fits_by opening script story place number since step.Delete may at_work = record { place = place; since = since; allowed = may; at_work = at_work }
fits_by opening script story place number since step.Cleanup may at_work = tt

-- ---- what is told

pub least_count : (before now : ℕ) → Rose before now → 1 ≤ now
least_count before now rose = omega (arith, rose)

module _ {D : Type 0} {loaded : ℕ} (Coherent : Type 0) (opening : Opening) (bytes : OpeningBytes) (script : Script) (old : State D) (faults : ℕ) (seen mine : List Event) (kept : IsKept opening loaded old faults seen mine) where
  abbrev pub Follow : List Event → Event → Type 0
  Follow = Follows Coherent opening bytes script

  module _ (coherent : Coherent) (story : List Event) (all : AllFollow Follow [] story) (own : known story ≡ mine) where
    next_is : next_id opening story ≡ old.made.next_id
    next_is = next_own Coherent opening bytes script coherent story all ∙ ap (next_id opening) own ∙ sym kept.next

    containers_are : containers opening story ≡ containers opening mine
    containers_are = containers_own Coherent opening bytes script coherent story all ∙ ap (containers opening) own

    ups_are : ups opening story ≡ old.up
    ups_are = ups_own Coherent opening bytes script coherent story all ∙ ap (ups opening) own ∙ sym kept.up

    pub unhalted : old.stopped ≡ false → halt_of Scm story ≡ None
    unhalted running = halt_own Coherent opening bytes script story all ∙ ap (halt_of Scm) own ∙ kept.halt ∙ ap (λ t. if t then Some faults else None) running

    are_there : AreContainers old.made.containers (containers opening story)
    are_there = subst (AreContainers old.made.containers) (sym containers_are) kept.made

    pub made_is : old.stopped ≡ false → IsMadeOf opening story old.made
    made_is running = record {
      nodes = kept.nodes;
      next = sym next_is;
      containers = are_there;
      log = log_of_same opening mine story (log_of old.made)
          (subst (λ (l : List Event). SaySame opening l story) own (log_own Coherent opening bytes script coherent story all)) (kept.log running);
    }

    grant_enabled : (stripe : ℕ) (exclude : Exclude) (grant : Grant) → old.stopped ≡ false → IsDue old.made old.up stripe exclude grant
        → ((number : ℕ) → Contains exclude.containers number → IsSome (get (containers opening mine) number))
        → ((container pipeline : ℕ) → (Contains exclude.containers container → ⊥) → (Contains exclude.pipelines pipeline → ⊥) → IsNeeded opening story stripe container pipeline)
        → GrantIsEnabled opening story scm_seat stripe grant.container grant.pipeline grant.first grant.count
    grant_enabled stripe exclude grant running due made needed = record {
      of_scm = refl;
      unhalted = unhalted running;
      next = due.next ∙ sym next_is;
      whole = due.whole;
      within = due.within;
      there = subst (λ n. grant.pipeline < pipelines_of n) (ap length (sym ups_are) ∙ length_ups opening story) due.on.free.known;
      up = subst (λ (up : List Bool). IsUp up grant.pipeline) (sym ups_are) due.on.free.up;
      holds = may_hold opening story old.made.containers are_there grant.pipeline exclude.containers grant.container due.chosen;
      needed = needed grant.container grant.pipeline
          (allowed opening story old.made.containers are_there grant.pipeline exclude.containers grant.container due.chosen
          (λ number among. subst (λ (all : Containers). IsSome (get all number)) (sym containers_are) (made number among)))
          due.on.free.allowed;
    }

    since_place : (seen_beside place : List Event) → BeginsWith story seen_beside → BeginsWith seen_beside place → known place ≡ mine → IsSinceScm story place
    since_place seen_beside place begins before same =
        let on = begins_then seen_beside story place begins before in
        record {
          behind = on.0;
          parts = on.1;
          others = to_all (λ (event : Event). event.seat ≢ scm_seat) on.0 (apart on.0 (others on.0 (none_more place on.0 (sym (ap known on.1) ∙ own ∙ sym same))));
        }

    module _ (container : ℕ) (event : Step) (from state : Reached) (in_state : state_at old.made.containers container ≡ Some from) (leads : next from event ≡ Some state) (seen_beside : List Event) (begins : BeginsWith story seen_beside) (may : MayStep opening script seen_beside mine container event) where
      step_enabled : old.stopped ≡ false → ClosedIsEnabled opening story scm_seat container state
      step_enabled running =
          let one = one_in old.made.containers container from in_state in
          record {
            of_scm = refl;
            unhalted = unhalted running;
            container = as_told one.0;
            made = are_there container ∙ ap (option_map as_told) one.1;
            by = event;
            leads = ap (λ s. next s event) one.2 ∙ leads;
            place = may.place;
            since = since_place seen_beside may.place begins may.begins may.since;
            allowed = may.allowed;
          }

      step_fits : ClosedFits opening script story container state
      step_fits = subst (ClosedFits opening script story container) (sym (leads_to from event state leads))
          (fits_by opening script story may.place container (since_place seen_beside may.place begins may.begins may.since) event may.allowed may.for_a_line)

    pub halt_enabled : (count : ℕ) → old.stopped ≡ false → 1 ≤ count → HaltIsEnabled opening story scm_seat Scm count
    halt_enabled count running counted = record { of_node = refl; unhalted = unhalted running; counted = counted }

  -- a grant that is told
  pub told_follows : (new : State D) (stripe : ℕ) (exclude : Exclude) (before after : Seen) (beside : ℕ) (seen_beside mine_beside : List Event) (result : Result Grant GrantFault)
      → old.stopped ≡ false → Grants stripe exclude old new before after result
      → (Coherent → (story : List Event) → BeginsWith story seen_beside → AllFollow Follow [] story → own_entries (λ (event : Event). event.seat) beside story ≡ mine_beside → known story ≡ mine
      → (container pipeline : ℕ) → (Contains exclude.containers container → ⊥) → (Contains exclude.pipelines pipeline → ⊥) → IsNeeded opening story stripe container pipeline)
      → (Coherent → (number : ℕ) → Contains exclude.containers number → IsSome (get (containers opening mine) number))
      → IfSome (told_of stripe result) (λ kind. (story : List Event) → BeginsWith story seen_beside → AllFollow Follow [] story → own_entries (λ (event : Event). event.seat) beside story ≡ mine_beside → known story ≡ mine → Follow story (by_scm kind))
  told_follows new stripe exclude before after beside seen_beside mine_beside (Ok grant) running grants needed made = λ story begins all its own. record {
    of_seat = tt;
    enabled = λ coherent. grant_enabled coherent story all own stripe exclude grant running grants.due (made coherent) (needed coherent story begins all its own);
    fits = λ coherent. tt;
  }
  told_follows new stripe exclude before after beside seen_beside mine_beside (Err (Stopped count)) running grants needed made = λ story begins all its own. record {
    of_seat = refl;
    enabled = λ coherent. halt_enabled coherent story all own count running
        (let one = least_count before.faults after.faults (grants.cause running grants.stops) in omega (arith, one, grants.count count refl));
    fits = λ coherent. tt;
  }
  told_follows new stripe exclude before after beside seen_beside mine_beside (Err NoPipeline) running grants needed made = tt
  told_follows new stripe exclude before after beside seen_beside mine_beside (Err Excluded) running grants needed made = tt
  told_follows new stripe exclude before after beside seen_beside mine_beside (Err (IdsSpent next count)) running grants needed made = tt
  told_follows new stripe exclude before after beside seen_beside mine_beside (Err OutOfMemory) running grants needed made = tt

  pub told_follows_as : (new : State D) (stripe : ℕ) (exclude : Exclude) (before after : Seen) (beside : ℕ) (seen_beside mine_beside : List Event) (result : Result Grant GrantFault) (told : Option EventKind)
      → told ≡ told_of stripe result → old.stopped ≡ false → Grants stripe exclude old new before after result
      → (Coherent → (story : List Event) → BeginsWith story seen_beside → AllFollow Follow [] story → own_entries (λ (event : Event). event.seat) beside story ≡ mine_beside → known story ≡ mine
      → (container pipeline : ℕ) → (Contains exclude.containers container → ⊥) → (Contains exclude.pipelines pipeline → ⊥) → IsNeeded opening story stripe container pipeline)
      → (Coherent → (number : ℕ) → Contains exclude.containers number → IsSome (get (containers opening mine) number))
      → IfSome told (λ kind. (story : List Event) → BeginsWith story seen_beside → AllFollow Follow [] story → own_entries (λ (event : Event). event.seat) beside story ≡ mine_beside → known story ≡ mine → Follow story (by_scm kind))
  told_follows_as new stripe exclude before after beside seen_beside mine_beside result told is running grants needed made =
      subst (λ (o : Option EventKind). IfSome o (λ kind. (story : List Event) → BeginsWith story seen_beside → AllFollow Follow [] story → own_entries (λ (event : Event). event.seat) beside story ≡ mine_beside → known story ≡ mine → Follow story (by_scm kind)))
      (sym is) (told_follows new stripe exclude before after beside seen_beside mine_beside result running grants needed made)

  -- a step that is told
  step_told : (new : State D) (container : ℕ) (event : Step) (before after : Seen) (beside : ℕ) (seen_beside mine_beside : List Event) (answer : Result Reached ApplyFault)
      → old.stopped ≡ false → Applies container event old new before after answer → (Coherent → MayStep opening script seen_beside mine container event)
      → IfSome (told_of_step container (stepped_as answer)) (λ kind. (story : List Event) → BeginsWith story seen_beside → AllFollow Follow [] story → own_entries (λ (event : Event). event.seat) beside story ≡ mine_beside → known story ≡ mine → Follow story (by_scm kind))
  step_told new container event before after beside seen_beside mine_beside (Ok state) running applies may = λ story begins all its own. record {
    of_seat = tt;
    enabled = λ coherent. step_enabled coherent story all own container event applies.reached.0 state applies.reached.1 applies.reached.2 seen_beside begins (may coherent) running;
    fits = λ coherent. step_fits coherent story all own container event applies.reached.0 state applies.reached.1 applies.reached.2 seen_beside begins (may coherent);
  }
  step_told new container event before after beside seen_beside mine_beside (Err (applying.Stopped count)) running applies may = λ story begins all its own. record {
    of_seat = refl;
    enabled = λ coherent. halt_enabled coherent story all own count running
        (let one = least_count before.faults after.faults (applies.cause running applies.stops) in omega (arith, one, applies.count count refl));
    fits = λ coherent. tt;
  }
  step_told new container event before after beside seen_beside mine_beside (Err (applying.WrongState state of)) running applies may = tt

  pub step_follows : (new : State D) (container : ℕ) (event : Step) (before after : Seen) (beside : ℕ) (seen_beside mine_beside : List Event) (answer : Result Reached ApplyFault) (result : Result Reached StepFault) (told : Option EventKind)
      → told ≡ told_of_step container result → result ≡ stepped_as answer → old.stopped ≡ false → Applies container event old new before after answer → (Coherent → MayStep opening script seen_beside mine container event)
      → IfSome told (λ kind. (story : List Event) → BeginsWith story seen_beside → AllFollow Follow [] story → own_entries (λ (event : Event). event.seat) beside story ≡ mine_beside → known story ≡ mine → Follow story (by_scm kind))
  step_follows new container event before after beside seen_beside mine_beside answer result told is answered running applies may =
      subst (λ (o : Option EventKind). IfSome o (λ kind. (story : List Event) → BeginsWith story seen_beside → AllFollow Follow [] story → own_entries (λ (event : Event). event.seat) beside story ≡ mine_beside → known story ≡ mine → Follow story (by_scm kind)))
      (sym (is ∙ ap (told_of_step container) answered)) (step_told new container event before after beside seen_beside mine_beside answer running applies may)

  -- what a stop leaves once it is told that the disk failed
  abbrev pub Last : ℕ → List Event → List Event → List Event → EventKind → Type 0
  Last beside seen_beside mine_beside seen_after = StandsLast Follow beside seen_beside mine_beside mine seen_after

  pub still_made : Coherent → old.stopped ≡ false → (story : List Event) → AllFollow Follow [] story → known story ≡ mine → (left : List ℕ) → StandsFor old.made.nodes left old.made → LoadsAsOrOneMore opening story left
  still_made coherent running story all own left stands =
      inl (old.made, made_is coherent story all own running, subst (λ (n : ℕ). StandsFor n left old.made) kept.nodes stands)

  halt_granted : Coherent → (new : State D) (stripe : ℕ) (exclude : Exclude) (before after : Seen) (beside : ℕ) (seen_beside mine_beside seen_after : List Event) (result : Result Grant GrantFault)
      → old.stopped ≡ false → Grants stripe exclude old new before after result
      → (Coherent → (story : List Event) → BeginsWith story seen_beside → AllFollow Follow [] story → own_entries (λ (event : Event). event.seat) beside story ≡ mine_beside → known story ≡ mine
      → (container pipeline : ℕ) → (Contains exclude.containers container → ⊥) → (Contains exclude.pipelines pipeline → ⊥) → IsNeeded opening story stripe container pipeline)
      → (Coherent → (number : ℕ) → Contains exclude.containers number → IsSome (get (containers opening mine) number))
      → IfSome (told_of stripe result) (Last beside seen_beside mine_beside seen_after) → new.stopped ≡ true → ScmHalted after opening seen_after
  halt_granted coherent new stripe exclude before after beside seen_beside mine_beside seen_after (Ok grant) running grants needed made told stopped = absurd (false≢true (sym grants.stops ∙ stopped))
  halt_granted coherent new stripe exclude before after beside seen_beside mine_beside seen_after (Err (Stopped count)) running grants needed made told stopped =
      subst (ScmHalted after opening) (sym told.last)
      (halts_now opening told.story count before after (StandsOrGranted old.made old.up stripe exclude) grants.telling grants.time (grants.stands running)
      (λ left. ⊎_elim
      (λ stands. still_made coherent running told.story told.follow told.own left stands)
      (λ it.
      let grant = it.0 in
      let place = chosen_place old.made.containers grant.pipeline exclude.containers grant.container it.1.chosen in
      inr (
        events.Grant stripe grant.container grant.pipeline grant.first grant.count,
        grant_enabled coherent told.story told.follow told.own stripe exclude grant running it.1 (made coherent) (needed coherent told.story told.begins told.follow told.others told.own),
        (
          after_grant grant old.made,
          made_granted opening told.story old.made (made_is coherent told.story told.follow told.own running) stripe grant place.0 place.1,
          subst (λ (n : ℕ). StandsFor n left (after_grant grant old.made)) kept.nodes it.2,
        ),
      ))))
  halt_granted coherent new stripe exclude before after beside seen_beside mine_beside seen_after (Err NoPipeline) running grants needed made told stopped = absurd (false≢true (sym grants.stops ∙ stopped))
  halt_granted coherent new stripe exclude before after beside seen_beside mine_beside seen_after (Err Excluded) running grants needed made told stopped = absurd (false≢true (sym grants.stops ∙ stopped))
  halt_granted coherent new stripe exclude before after beside seen_beside mine_beside seen_after (Err (IdsSpent next count)) running grants needed made told stopped = absurd (false≢true (sym grants.stops ∙ stopped))
  halt_granted coherent new stripe exclude before after beside seen_beside mine_beside seen_after (Err OutOfMemory) running grants needed made told stopped = absurd (false≢true (sym grants.stops ∙ stopped))

  pub halted_granted : (new : State D) (stripe : ℕ) (exclude : Exclude) (before after : Seen) (beside : ℕ) (seen_beside mine_beside seen_after : List Event) (result : Result Grant GrantFault) (told : Option EventKind)
      → told ≡ told_of stripe result → old.stopped ≡ false → Grants stripe exclude old new before after result
      → (Coherent → (story : List Event) → BeginsWith story seen_beside → AllFollow Follow [] story → own_entries (λ (event : Event). event.seat) beside story ≡ mine_beside → known story ≡ mine
      → (container pipeline : ℕ) → (Contains exclude.containers container → ⊥) → (Contains exclude.pipelines pipeline → ⊥) → IsNeeded opening story stripe container pipeline)
      → (Coherent → (number : ℕ) → Contains exclude.containers number → IsSome (get (containers opening mine) number))
      → IfSome told (Last beside seen_beside mine_beside seen_after) → Coherent → new.stopped ≡ true → ScmHalted after opening seen_after
  halted_granted new stripe exclude before after beside seen_beside mine_beside seen_after result told is running grants needed made last coherent stopped =
      halt_granted coherent new stripe exclude before after beside seen_beside mine_beside seen_after result running grants needed made
      (subst (λ (o : Option EventKind). IfSome o (Last beside seen_beside mine_beside seen_after)) is last) stopped

  may_reach : (container : ℕ) (event : Step) → scm_may.MayStep old.made container event → (from : Reached) × (state : Reached) × (state_at old.made.containers container ≡ Some from) × (next from event ≡ Some state)
  may_reach container event may = by (container_at old.made.containers container) refl
    where
      by : (o : Option MadeContainer) → container_at old.made.containers container ≡ o → (from : Reached) × (state : Reached) × (state_at old.made.containers container ≡ Some from) × (next from event ≡ Some state)
      by None there = absurd (false≢true (sym (ap (λ o. is_some (stepped o event)) there) ∙ may))
      by (Some one) there = to (next one.state event) refl
        where
          to : (o : Option Reached) → next one.state event ≡ o → (from : Reached) × (state : Reached) × (state_at old.made.containers container ≡ Some from) × (next from event ≡ Some state)
          to None none = absurd (false≢true (sym (ap (λ o. is_some (stepped o event)) there ∙ ap (λ o. is_some (option_map (λ (s : Reached). record one { state = s }) o)) none) ∙ may))
          to (Some state) leads = (one.state, state, ap (option_map (λ (one : MadeContainer). one.state)) there, leads)

  halt_stepped : Coherent → (new : State D) (container : ℕ) (event : Step) (before after : Seen) (beside : ℕ) (seen_beside mine_beside seen_after : List Event) (answer : Result Reached ApplyFault)
      → old.stopped ≡ false → Applies container event old new before after answer → (Coherent → MayStep opening script seen_beside mine container event)
      → IfSome (told_of_step container (stepped_as answer)) (Last beside seen_beside mine_beside seen_after) → new.stopped ≡ true → ScmHalted after opening seen_after
  halt_stepped coherent new container event before after beside seen_beside mine_beside seen_after (Ok state) running applies may told stopped = absurd (false≢true (sym applies.stops ∙ stopped))
  halt_stepped coherent new container event before after beside seen_beside mine_beside seen_after (Err (applying.WrongState state of)) running applies may told stopped = absurd (false≢true (sym applies.stops ∙ stopped))
  halt_stepped coherent new container event before after beside seen_beside mine_beside seen_after (Err (applying.Stopped count)) running applies may told stopped =
      subst (ScmHalted after opening) (sym told.last)
      (halts_now opening told.story count before after (StandsOrStepped old.made container event) applies.telling applies.time (applies.stands running)
      (λ left. ⊎_elim
      (λ stands. still_made coherent running told.story told.follow told.own left stands)
      (λ it.
      let to = may_reach container event it.0 in
      inr (
        events.Closed container to.1,
        step_enabled coherent told.story told.follow told.own container event to.0 to.1 to.2 to.3 seen_beside told.begins (may coherent) running,
        (
          after_step container event old.made,
          made_stepped opening told.story old.made (made_is coherent told.story told.follow told.own running) container event to.0 to.1 to.2 to.3,
          subst (λ (n : ℕ). StandsFor n left (after_step container event old.made)) kept.nodes it.1,
        ),
      ))))

  pub halted_stepped : (new : State D) (container : ℕ) (event : Step) (before after : Seen) (beside : ℕ) (seen_beside mine_beside seen_after : List Event) (answer : Result Reached ApplyFault) (result : Result Reached StepFault) (told : Option EventKind)
      → told ≡ told_of_step container result → result ≡ stepped_as answer → old.stopped ≡ false → Applies container event old new before after answer → (Coherent → MayStep opening script seen_beside mine container event)
      → IfSome told (Last beside seen_beside mine_beside seen_after) → Coherent → new.stopped ≡ true → ScmHalted after opening seen_after
  halted_stepped new container event before after beside seen_beside mine_beside seen_after answer result told is answered running applies may last coherent stopped =
      halt_stepped coherent new container event before after beside seen_beside mine_beside seen_after answer running applies may
      (subst (λ (o : Option EventKind). IfSome o (Last beside seen_beside mine_beside seen_after)) (is ∙ ap (told_of_step container) answered) last) stopped

  -- a datanode's Up, or Down
  pub up_follows : (dn : ℕ) (up : Bool) (mine_beside : List Event) (story : List Event) → dn < length opening.nodes → (is_up dn mine ≡ up → ⊥) → is_running dn mine_beside ≡ up
      → AllFollow Follow [] story → own_entries (λ (event : Event). event.seat) (datanode_seat dn) story ≡ mine_beside → known story ≡ mine → Follow story (by_scm (up_event dn up))
  up_follows dn up mine_beside story there other runs all its own = by up other runs
    where
      up_is : Coherent → is_up dn story ≡ is_up dn mine
      up_is coherent = up_own Coherent opening bytes script coherent story all dn ∙ ap (is_up dn) own

      runs_so : Coherent → is_running dn story ≡ is_running dn mine_beside
      runs_so coherent = running_own Coherent opening bytes script coherent story all dn ∙ ap (is_running dn) its

      not_true : (t : Bool) → (t ≡ true → ⊥) → t ≡ false
      not_true true not = absurd (not refl)
      not_true false not = refl

      not_false : (t : Bool) → (t ≡ false → ⊥) → t ≡ true
      not_false true not = refl
      not_false false not = absurd (not refl)

      by : (up : Bool) → (is_up dn mine ≡ up → ⊥) → is_running dn mine_beside ≡ up → Follow story (by_scm (up_event dn up))
      by true other runs = record {
        of_seat = tt;
        enabled = λ coherent. record { of_scm = refl; there = there; down = up_is coherent ∙ not_true (is_up dn mine) other; runs = runs_so coherent ∙ runs };
        fits = λ coherent. tt;
      }
      by false other runs = record {
        of_seat = tt;
        enabled = λ coherent. record { of_scm = refl; there = there; up = up_is coherent ∙ not_false (is_up dn mine) other; stands_still = runs_so coherent ∙ runs };
        fits = λ coherent. tt;
      }

  pub up_follows_as : (dn : ℕ) (up : Bool) (beside : ℕ) (mine_beside : List Event) (story : List Event) (kind : EventKind) → kind ≡ up_event dn up → beside ≡ datanode_seat dn
      → dn < length opening.nodes → (is_up dn mine ≡ up → ⊥) → is_running dn mine_beside ≡ up → AllFollow Follow [] story
      → own_entries (λ (event : Event). event.seat) beside story ≡ mine_beside → known story ≡ mine → Follow story (by_scm kind)
  up_follows_as dn up beside mine_beside story kind is seat there other runs all its own =
      subst (λ (k : EventKind). Follow story (by_scm k)) (sym is)
      (up_follows dn up mine_beside story there other runs all (ap (λ n. own_entries (λ (event : Event). event.seat) n story) (sym seat) ∙ its) own)

pub told_is_note : (stripe : ℕ) (result : Result Grant GrantFault) → IfSome (told_of stripe result) IsNote
told_is_note stripe (Ok grant) = tt
told_is_note stripe (Err (Stopped count)) = tt
told_is_note stripe (Err NoPipeline) = tt
told_is_note stripe (Err Excluded) = tt
told_is_note stripe (Err (IdsSpent next count)) = tt
told_is_note stripe (Err OutOfMemory) = tt

pub step_is_note : (container : ℕ) (result : Result Reached StepFault) → IfSome (told_of_step container result) IsNote
step_is_note container (Ok state) = tt
step_is_note container (Err (stepping.Stopped count)) = tt
step_is_note container (Err (stepping.WrongState state event)) = tt
step_is_note container (Err stepping.OutOfMemory) = tt
