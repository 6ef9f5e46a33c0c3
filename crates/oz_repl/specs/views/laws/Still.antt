-- What the storage container manager and the datanodes make of a story stays while they give nothing.
use Rattle.std.proofs.Common.{◌≡◌, ◌≢◌, inl, inr, ℕ, zero, suc, ◌<◌, Bool, true, false, ◌||◌, ◌==◌, cond}
use Rattle.std.proofs.Common.{List, [], ◌∷◌, ◌++◌, length, Option, None, Some, Contains, refl, sym, ◌∙◌, ap}
use Rattle.std.proofs.Common.{subst, append-nil, append_assoc, map, arith}
use Rattle.std.proofs.lemmas.Bool.{eq-eqb}
use Rattle.std.proofs.lemmas.List.{append_cancel_left}
use Rattle.std.proofs.lemmas.List.Elements.{filter-append, filter_map-append}
use Rattle.std.proofs.lemmas.List.Folds.{list_any-append}
use Rattle.std.proofs.lemmas.List.Sums.{fold_push}
use Rattle.std.specs.FinMap.{get}
use Rattle.std.specs.List.{All, cons_option}
use Rattle.std.specs.Option.{option_map_or}
use Rattle.oz_container.specs.declared.state.Event.{Event as Step}
use Rattle.oz_container.specs.declared.state.Event.TheVariants as step
use Rattle.oz_command.specs.declared.command.AdminCommand.TheVariants as admin
use Rattle.oz_dellog.specs.declared.txn.Txn.{Txn}
use Rattle.oz_fields.specs.declared.block.Block.{Block}
use Rattle.oz_nodes.specs.Pipelines.{members_of}
use Rattle.oz_requests.specs.declared.answer.Values.{Values}
use Rattle.oz_requests.specs.declared.answer.Values.TheVariants as values
use Rattle.oz_requests.specs.declared.request.AskId.{AskId}
use Rattle.oz_script.specs.declared.lines.script.Line.{Line}
use Rattle.oz_core.specs.declared.event.Event.{Event}
use Rattle.oz_core.specs.declared.event.EventKind.{EventKind}
use Rattle.oz_core.specs.declared.event.EventKind.TheVariants as kinds
use Rattle.oz_core.specs.declared.event.Node.TheVariants.{Scm}
use Rattle.oz_core.specs.declared.opening.Container.{Container}
use Rattle.oz_core.specs.declared.opening.Opening.{Opening}
use Rattle.oz_core.specs.declared.opening.Unretired.{Unretired}
use Rattle.oz_core.specs.Asks.{own_id}
use Rattle.oz_core.specs.Due.{AdminIsDone, AreClosed, EmptyAreDeleted, IsCopyDue, IsDriven}
use Rattle.oz_core.specs.Due.{MayBeLeft, state_counts, was_bad, was_full}
use Rattle.oz_core.specs.Law.{Agree, AgreeInPart, AllowsStep, AreEmpty, HoldAlike, IsLegal, IsLegalFrom, KindIsEnabled}
use Rattle.oz_core.specs.Lines.{IsStart}
use Rattle.oz_core.specs.Manager.{halt_count, halt_of}
use Rattle.oz_core.specs.Nodes.{closed_after, held_after, holds, is_closed, was_closed, was_held}
use Rattle.oz_core.specs.Scm.{Containers, containers, containers_after, is_in_logs, is_logged, is_up, logged, logs, members, up_or_down}
use Rattle.oz_core.specs.Seats.{datanode_seat, scm_seat}
use Rattle.oz_core.specs.Stories.{all_told, has_event, last_told, mine, newer}
use Rattle.oz_repl.specs.views.Still.{GaveNothing}
use Rattle.oz_kept.specs.laws.Places.{legal_behind, legal_first, legal_rest, moved_over}

-- ---- who says nothing

-- a seat that is neither that manager's nor a datanode's
pub record IsOther (opening : Opening) (seat : ℕ) : Type 0 where
  pub of_scm : seat ≢ scm_seat
  pub of_node : (dn : ℕ) → dn < length opening.nodes → seat ≢ datanode_seat dn

record SaysNothing (kind : EventKind) : Type 0 where
  containers : (all : Containers) → containers_after all kind ≡ all
  logged : logged kind ≡ None
  up : (dn : ℕ) → up_or_down dn kind ≡ None
  closed : (dn number : ℕ) → closed_after dn number kind ≡ None
  held : (txns : List Txn) (dn : ℕ) (block : Block) → held_after txns dn block kind ≡ None
  full : (id : AskId) (dn : ℕ) (block : Block) → was_full id dn block kind ≡ false
  bad : (id : AskId) (block : Block) (dn : ℕ) → was_bad id block dn kind ≡ false
  halt : halt_count Scm kind ≡ None

nothing : (opening : Opening) (before : List Event) (seat : ℕ) (kind : EventKind) → KindIsEnabled opening before seat
    kind → IsOther opening seat → SaysNothing kind
nothing opening before seat (kinds.Grant stripe container pipeline first count) enabled other = absurd (other.of_scm enabled.of_scm)
nothing opening before seat (kinds.Closed container state) enabled other = absurd (other.of_scm enabled.of_scm)
nothing opening before seat (kinds.Log txn container locals) enabled other = absurd (other.of_scm enabled.of_scm)
nothing opening before seat (kinds.Up dn) enabled other = absurd (other.of_scm enabled.of_scm)
nothing opening before seat (kinds.Down dn) enabled other = absurd (other.of_scm enabled.of_scm)
nothing opening before seat (kinds.Put dn block id first count) enabled other = absurd (other.of_node dn enabled.of_datanode.there enabled.of_datanode.its)
nothing opening before seat (kinds.Copy source target block) enabled other = absurd (other.of_node target enabled.of_target.there enabled.of_target.its)
nothing opening before seat (kinds.Delete dn txn locals) enabled other = absurd (other.of_node dn enabled.of_datanode.there enabled.of_datanode.its)
nothing opening before seat (kinds.Wipe dn) enabled other = absurd (other.of_node dn enabled.of_datanode.there enabled.of_datanode.its)
nothing opening before seat (kinds.CloseCommand dn container) enabled other = absurd (other.of_node dn enabled.of_datanode.there enabled.of_datanode.its)
nothing opening before seat (kinds.Refused dn block id refusal) enabled other = absurd (other.of_node dn enabled.of_datanode.there enabled.of_datanode.its)
nothing opening before seat (kinds.Bad dn block id) enabled other = absurd (other.of_node dn enabled.of_datanode.there enabled.of_datanode.its)
nothing opening before seat (kinds.Halt Scm count) enabled other = absurd (other.of_scm enabled.of_node)
nothing opening before seat kind enabled other = record {
  containers = λ all. refl;
  logged = refl;
  up = λ dn. refl;
  closed = λ dn number. refl;
  held = λ txns dn block. refl;
  full = λ id dn block. refl;
  bad = λ id block dn. refl;
  halt = refl;
}

-- ---- two stories of which the same is so

pub record StandsStill (opening : Opening) (one other : List Event) : Type 0 where
  pub containers : containers opening other ≡ containers opening one
  pub logs : logs opening other ≡ logs opening one
  pub up : (dn : ℕ) → is_up dn other ≡ is_up dn one
  pub closed : (dn number : ℕ) → is_closed opening other dn number ≡ is_closed opening one dn number
  pub held : (dn : ℕ) (block : Block) → holds opening other dn block ≡ holds opening one dn block
  pub full : (id : AskId) (dn : ℕ) (block : Block) → has_event (was_full id dn block) other ≡ has_event (was_full id dn block) one
  pub bad : (id : AskId) (block : Block) (dn : ℕ) → has_event (was_bad id block dn) other ≡ has_event (was_bad id block dn) one
  pub halt : halt_of Scm other ≡ halt_of Scm one

pub still_back : (opening : Opening) (one other : List Event) → StandsStill opening one other → StandsStill opening other one
still_back opening one other still = record {
  containers = sym still.containers;
  logs = sym still.logs;
  up = λ dn. sym (still.up dn);
  closed = λ dn number. sym (still.closed dn number);
  held = λ dn block. sym (still.held dn block);
  full = λ id dn block. sym (still.full id dn block);
  bad = λ id block dn. sym (still.bad id block dn);
  halt = sym still.halt;
}

still_on : (opening : Opening) (one other third : List Event) → StandsStill opening one other → StandsStill opening other third → StandsStill opening one third
still_on opening one other third first second = record {
  containers = second.containers ∙ first.containers;
  logs = second.logs ∙ first.logs;
  up = λ dn. second.up dn ∙ first.up dn;
  closed = λ dn number. second.closed dn number ∙ first.closed dn number;
  held = λ dn block. second.held dn block ∙ first.held dn block;
  full = λ id dn block. second.full id dn block ∙ first.full id dn block;
  bad = λ id block dn. second.bad id block dn ∙ first.bad id block dn;
  halt = second.halt ∙ first.halt;
}

-- one event more that says nothing
module _ (opening : Opening) (before : List Event) (event : Event) (says : SaysNothing event.kind) where
  no_more : (is : EventKind → Bool) → is event.kind ≡ false → has_event is (before ++ event ∷ []) ≡ has_event is before
  no_more is none =
      list_any-append (λ (event : Event). is event.kind) before (event ∷ [])
      ∙ ap (λ (t : Bool). has_event is before || (t || false)) none ∙ or_false (has_event is before)
    where
      or_false : (t : Bool) → t || (false || false) ≡ t
      or_false true = refl
      or_false false = refl

  logs_still : logs opening (before ++ event ∷ []) ≡ logs opening before
  logs_still =
      ap (λ (l : List Txn). opening_txns ++ l)
      (filter_map-append (λ (event : Event). logged event.kind) before (event ∷ [])
      ∙ ap (λ (o : Option Txn). all_told logged before ++ cons_option o []) says.logged ∙ append-nil (all_told logged before))
    where
      opening_txns : List Txn
      opening_txns = map (λ (unretired : Unretired). unretired.txn) opening.unretired

  still_one : StandsStill opening before (before ++ event ∷ [])
  still_one = record {
    containers = fold_push (λ before (event : Event). containers_after before event.kind) opening.containers before
        event ∙ says.containers (containers opening before);
    logs = logs_still;
    up = λ dn. fold_push (λ told (event : Event). newer (up_or_down dn event.kind) told) true before event
        ∙ ap (λ (o : Option Bool). newer o (is_up dn before)) (says.up dn);
    closed = λ dn number.
        fold_push (λ told (event : Event). newer (closed_after dn number event.kind) told) (was_closed opening dn number) before event
        ∙ ap (λ (o : Option Bool). newer o (is_closed opening before dn number)) (says.closed dn number);
    held = λ dn block.
        ap (λ (l : List Txn). last_told (held_after l dn block) (was_held opening dn block) (before ++ event ∷ [])) logs_still
        ∙ fold_push (λ told (event : Event). newer (held_after (logs opening before) dn block event.kind) told) (was_held opening dn block) before event
        ∙ ap (λ (o : Option Bool). newer o (holds opening before dn block)) (says.held (logs opening before) dn block);
    full = λ id dn block. no_more (was_full id dn block) (says.full id dn block);
    bad = λ id block dn. no_more (was_bad id block dn) (says.bad id block dn);
    halt = fold_push (λ told (event : Event). newer (halt_count Scm event.kind) told) None before event
        ∙ ap (λ (o : Option (Option ℕ)). newer o (halt_of Scm before)) says.halt;
  }

still_behind : (opening : Opening) (behind before : List Event) → IsLegalFrom opening before behind
    → ((event : Event) → Contains behind event → IsOther opening event.seat) → StandsStill opening before (before ++ behind)
still_behind opening [] before legal others = subst (StandsStill opening before) (sym (append-nil before)) (record {
  containers = refl;
  logs = refl;
  up = λ dn. refl;
  closed = λ dn number. refl;
  held = λ dn block. refl;
  full = λ id dn block. refl;
  bad = λ id block dn. refl;
  halt = refl;
})
still_behind opening (event ∷ behind) before legal others =
    let says = nothing opening before event.seat event.kind (legal_first opening before event behind legal) (others event (0, omega arith, refl)) in
    subst (StandsStill opening before) (moved_over before behind event)
    (still_on opening before (before ++ event ∷ []) ((before ++ event ∷ []) ++ behind) (still_one opening before event says)
    (still_behind opening behind (before ++ event ∷ []) (legal_rest opening before event behind legal)
    (λ later (k, lt, is). others later (suc k, omega (arith, lt), is))))

-- ---- where a seat gave nothing more

none_of : (seat : ℕ) (behind : List Event) → mine seat behind ≡ [] → (event : Event) → Contains behind event → event.seat ≢ seat
none_of seat [] none event there same = absurd (omega (arith, there.1))
none_of seat (first ∷ behind) none event there same = by (first.seat == seat) refl none there (none_of seat behind)
  where
    by : (t : Bool) → (first.seat == seat) ≡ t → cond t (first ∷ mine seat behind) (mine seat behind) ≡ [] → Contains (first ∷ behind) event
        → (mine seat behind ≡ [] → (event : Event) → Contains behind event → event.seat ≢ seat) → ⊥
    by true e none there rest = absurd cc
    by false e none (suc k, lt, is) rest = rest none event (k, omega (arith, lt), is) same
    by false e none (zero, lt, is) rest =
        let wrong : false ≡ true = sym e ∙ eq-eqb first.seat seat (ap (λ (event : Event). event.seat) is ∙ same) in
        absurd cc

no_more_of : (seat : ℕ) (place behind : List Event) → mine seat (place ++ behind) ≡ mine seat place → mine seat behind ≡ []
no_more_of seat place behind same =
    append_cancel_left (mine seat place) (mine seat behind) []
    (sym (filter-append (λ (event : Event). event.seat == seat) place behind) ∙ same ∙ sym (append-nil (mine seat place)))

pub stands_still : (opening : Opening) (place behind : List Event) → IsLegal opening (place ++ behind)
    → GaveNothing opening place (place ++ behind) → StandsStill opening place (place ++ behind)
stands_still opening place behind legal gave =
    still_behind opening behind place (legal_behind opening [] place behind legal)
    (λ event there. record {
      of_scm = none_of scm_seat behind (no_more_of scm_seat place behind gave.scm) event there;
      of_node = λ dn lt. none_of (datanode_seat dn) behind (no_more_of (datanode_seat dn) place behind (gave.nodes dn lt)) event there;
    })

-- ---- so what rests on that alone stands

module _ (opening : Opening) (one other : List Event) (still : StandsStill opening one other) where
  members_still : (number : ℕ) → members opening other number ≡ members opening one number
  members_still number = ap
      (λ (all : Containers). option_map_or (λ (container : Container). members_of (length opening.nodes)
      container.pipeline) (get all number) []) still.containers

  logged_still : (block : Block) → is_logged opening other block ≡ is_logged opening one block
  logged_still block = ap (λ (l : List Txn). is_in_logs l block) still.logs

  alike_still : (number dn node : ℕ) → HoldAlike opening one number dn node → HoldAlike opening other number dn node
  alike_still number dn node alike = λ block its unlogged. still.held dn block
      ∙ alike block its (sym (logged_still block) ∙ unlogged) ∙ sym (still.held node block)

  agree_still : (number : ℕ) → Agree opening one number → Agree opening other number
  agree_still number agree =
      let same = sym (members_still number) in record {
        up = subst (All (λ dn. is_up dn other ≡ true)) same (λ k d lt. still.up _ ∙ agree.up k d lt);
        closed = subst (All (λ dn. is_closed opening other dn number ≡ true)) same (λ k d lt. still.closed _ number ∙ agree.closed k d lt);
        alike = subst (λ (l : List ℕ). All (λ dn. All (HoldAlike opening other number dn) l) l) same
            (λ k d lt j e less. alike_still number _ _ (agree.alike k d lt j e less));
      }

  empty_still : (number : ℕ) → AreEmpty opening one number → AreEmpty opening other number
  empty_still number are =
      let same = sym (members_still number) in record {
        up = subst (All (λ dn. is_up dn other ≡ true)) same (λ k d lt. still.up _ ∙ are.up k d lt);
        empty = subst (All (λ dn. (block : Block) → block.container ≡ number → holds opening other dn block ≡ false)) same
            (λ k d lt block its. still.held _ block ∙ are.empty k d lt block its);
      }

  members_among : (number dn : ℕ) → Contains (members opening one number) dn → Contains (members opening other number) dn
  members_among number dn = subst (λ (l : List ℕ). Contains l dn) (sym (members_still number))

module _ (opening : Opening) (one other : List Event) (still : StandsStill opening one other) where
  part_still : (number : ℕ) → AgreeInPart opening one number → AgreeInPart opening other number
  part_still number part = record {
    dn = part.dn;
    member = members_among opening one other still number part.dn part.member;
    up = still.up part.dn ∙ part.up;
    closed = subst (All (λ dn. is_up dn other ≡ true → is_closed opening other dn number ≡ true)) (sym (members_still opening one other still number))
        (λ k d lt up. still.closed _ number ∙ part.closed k d lt (sym (still.up _) ∙ up));
    apart = λ agree. part.apart (agree_still opening other one (still_back opening one other still) number agree);
  }

  allows_still : (number : ℕ) (by : Step) → AllowsStep opening one number by → AllowsStep opening other number by
  allows_still number step.Finalize allowed = tt
  allows_still number step.QuasiClose allowed = part_still number allowed
  allows_still number step.Close allowed = agree_still opening one other still number allowed
  allows_still number step.ForceClose allowed = agree_still opening one other still number allowed
  allows_still number step.Delete allowed = empty_still opening one other still number allowed
  allows_still number step.Cleanup allowed = tt

  due_still : (number : ℕ) (block : Block) (lacking : ℕ) → IsCopyDue opening one number block lacking → IsCopyDue opening other number block lacking
  due_still number block lacking due = record {
    unlogged = logged_still opening one other still block ∙ due.unlogged;
    of_container = due.of_container;
    source = due.source;
    source_member = members_among opening one other still number due.source due.source_member;
    source_up = still.up due.source ∙ due.source_up;
    held = still.held due.source block ∙ due.held;
    member = members_among opening one other still number lacking due.member;
    up = still.up lacking ∙ due.up;
    lacks = still.held lacking block ∙ due.lacks;
  }

  left_still : (id : AskId) (number : ℕ) (block : Block) (lacking : ℕ) → MayBeLeft opening one id number block lacking
      → MayBeLeft opening other id number block lacking
  left_still id number block lacking (inl full) = inl (still.full id lacking block ∙ full)
  left_still id number block lacking (inr bad) =
      inr (subst (All (λ dn. is_up dn other ≡ true → holds opening other dn block ≡ true
      → has_event (was_bad id block dn) other ≡ true)) (sym (members_still opening one other still number))
      (λ k d lt up held. still.bad id block _ ∙ bad k d lt (sym (still.up _) ∙ up) (sym (still.held _ block) ∙ held)))

-- a line starts where it started
start_still : (place behind : List Event) (line : Line) (start : List Event) → IsStart place line start → IsStart (place ++ behind) line start
start_still place behind line start is = record {
  behind = is.behind ++ behind;
  parts = ap (λ (l : List Event). l ++ behind) is.parts ∙ append_assoc start is.behind behind;
  started = is.started;
  first = is.first;
}

module _ (opening : Opening) (place behind : List Event) (still : StandsStill opening place (place ++ behind)) where
  abbrev story : List Event
  story = place ++ behind

  back : StandsStill opening (place ++ behind) place
  back = still_back opening place (place ++ behind) still

  found_before : (number : ℕ) (container : Container) → get (containers opening (place ++ behind)) number ≡ Some
      container → get (containers opening place) number ≡ Some container
  found_before number container there = sym (ap (λ (all : Containers). get all number) still.containers) ∙ there

  driven_still : (id : AskId) (number : ℕ) (container : Container) → IsDriven opening place id number container
      → IsDriven opening (place ++ behind) id number container
  driven_still id number container driven = record {
    closed = λ closing. subst
        (All (λ dn. is_up dn (place ++ behind) ≡ true → is_closed opening (place ++ behind) dn number ≡ true))
        (sym (members_still opening place (place ++ behind) still number))
        (λ k d lt up. still.closed _ number ∙ driven.closed closing k d lt (sym (still.up _) ∙ up));
    no_step = λ by state of leads allowed. driven.no_step by state of leads (allows_still opening (place ++ behind) place back number by allowed);
    no_copy = λ copied block lacking due. left_still opening place (place ++ behind) still id number block lacking
        (driven.no_copy copied block lacking (due_still opening (place ++ behind) place back number block lacking due));
  }

  pub closed_still : (line : Line) → AreClosed opening place line → AreClosed opening (place ++ behind) line
  closed_still line closed = record {
    start = closed.start;
    is_start = start_still place behind line closed.start closed.is_start;
    shut = λ number before container was is opened. closed.shut number before container was (found_before number container is) opened;
    driven = λ number before container was is. driven_still (own_id line.client line.number) number container
        (closed.driven number before container was (found_before number container is));
  }

  pub empty_are_deleted_still : (line : Line) → EmptyAreDeleted opening place line → EmptyAreDeleted opening (place ++ behind) line
  empty_are_deleted_still line deleted = record {
    start = deleted.start;
    is_start = start_still place behind line deleted.start deleted.is_start;
    deleted = λ number before container was is closed empty.
        deleted.deleted number before container was (found_before number container is) closed (empty_still opening (place ++ behind) place back number empty);
  }

  pub close_done_still : (line : Line) (it : Values) → AdminIsDone opening place line admin.Close it → AdminIsDone opening (place ++ behind) line admin.Close it
  close_done_still line it (unhalted, closed, is) = (still.halt ∙ unhalted, closed_still line closed, is)

  pub counted_still : (line : Line) (it : Values) → AdminIsDone opening place line admin.Containers it
      → AdminIsDone opening (place ++ behind) line admin.Containers it
  counted_still line it (unhalted, is) =
      (still.halt ∙ unhalted, is ∙ ap (λ (all : Containers). values.States (counts all)) (sym still.containers))
    where
      counts : Containers → List ℕ
      counts all = state_counts (record opening { containers = all }) []
