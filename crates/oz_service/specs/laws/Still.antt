-- What a drain was done or held with stays while neither the flusher, nor the storage container manager, nor a datanode gives an event.
use Rattle.std.proofs.Common.{◌≡◌, ◌≢◌, ℕ, suc, Bool, true, false, ◌||◌, ◌==◌, List, [], ◌∷◌, ◌++◌, Option, None, Contains}
use Rattle.std.proofs.Common.{refl, sym, ◌∙◌, ap, subst, append-nil, append_assoc, arith, length}
use Rattle.std.proofs.lemmas.Bool.{eq-eqb}
use Rattle.std.proofs.lemmas.List.{append_cancel_left}
use Rattle.std.proofs.Math.ListN.{get_or}
use Rattle.std.proofs.lemmas.List.Elements.{filter-append, filter_map-append}
use Rattle.std.proofs.lemmas.List.Folds.{list_any-append}
use Rattle.std.proofs.lemmas.List.Sums.{fold_push}
use Rattle.std.specs.FinMap.{get}
use Rattle.std.specs.List.{All, cons_option}
use Rattle.std.specs.Option.{option_map_or}
use Rattle.oz_command.specs.declared.command.AdminCommand.TheVariants as admin
use Rattle.oz_dellog.specs.declared.txn.Txn.{Txn}
use Rattle.oz_fields.specs.declared.block.Block.{Block}
use Rattle.oz_model.specs.laws.Members.{filtered}
use Rattle.oz_nodes.specs.Pipelines.{members_of}
use Rattle.oz_requests.specs.declared.answer.Values.{Values}
use Rattle.oz_script.specs.declared.lines.script.Line.{Line}
use Rattle.oz_core.specs.declared.event.Event.{Event}
use Rattle.oz_core.specs.declared.event.EventKind.{EventKind}
use Rattle.oz_core.specs.declared.event.EventKind.TheVariants as kinds
use Rattle.oz_core.specs.declared.event.Node.TheVariants.{Manager, Scm, Datanode}
use Rattle.oz_core.specs.declared.opening.Container.{Container}
use Rattle.oz_core.specs.declared.opening.Opening.{Opening}
use Rattle.oz_core.specs.Drained.{IsDrained, IsFinished, WasGarbage}
use Rattle.oz_core.specs.Due.{AdminIsDone, IsHeld}
use Rattle.oz_core.specs.Law.{IsLegal, IsLegalFrom, KindIsEnabled}
use Rattle.oz_core.specs.Lines.{IsStart}
use Rattle.oz_core.specs.Manager.{halt_count, halt_of}
use Rattle.oz_core.specs.Nodes.{holds}
use Rattle.oz_core.specs.Scm.{Containers, acknowledged_at_opening, acknowledger, acknowledgers, is_retired, is_up, members, retires}
use Rattle.oz_core.specs.Seats.{flusher_seat, scm_seat}
use Rattle.oz_core.specs.Stories.{all_told, mine, newer}
use Rattle.oz_kept.specs.laws.Places.{legal_behind, legal_first, legal_rest, moved_over}
use Rattle.oz_kept.specs.laws.Reached.{in_none}
use Rattle.oz_repl.specs.views.laws.Still.{StandsStill, empty_are_deleted_still, stands_still}
use Rattle.oz_service.specs.Still.{AllGaveNothing}
use Rattle.oz_service.specs.laws.Drained.{garbage_at_start, was_garbage}

-- ---- acknowledgements, retirements and the manager's halt

record SaysNoMore (kind : EventKind) : Type 0 where
  acked : (number : ℕ) → acknowledger number kind ≡ None
  retired : (number : ℕ) → retires number kind ≡ false
  halted : halt_count Manager kind ≡ None

no_more : (opening : Opening) (before : List Event) (seat : ℕ) (kind : EventKind) → KindIsEnabled opening before seat kind
    → seat ≢ scm_seat → seat ≢ flusher_seat → SaysNoMore kind
no_more opening before seat (kinds.AckDel dn txn) enabled of_scm of_flusher = absurd (of_scm enabled.of_scm)
no_more opening before seat (kinds.Retire txn) enabled of_scm of_flusher = absurd (of_scm enabled.of_scm)
no_more opening before seat (kinds.Halt Manager count) enabled of_scm of_flusher = absurd (of_flusher enabled.of_node)
no_more opening before seat (kinds.Halt Scm count) enabled of_scm of_flusher = absurd (of_scm enabled.of_node)
no_more opening before seat (kinds.Halt (Datanode dn) count) enabled of_scm of_flusher =
    record { acked = λ number. refl; retired = λ number. refl; halted = refl }
no_more opening before seat kind enabled of_scm of_flusher =
    record { acked = λ number. refl; retired = λ number. refl; halted = refl }

record StandsMore (opening : Opening) (one other : List Event) : Type 0 where
  acked : (number : ℕ) → acknowledgers opening other number ≡ acknowledgers opening one number
  retired : (number : ℕ) → is_retired number other ≡ is_retired number one
  halted : halt_of Manager other ≡ halt_of Manager one

or_false : (t : Bool) → t || (false || false) ≡ t
or_false true = refl
or_false false = refl

one_more : (opening : Opening) (before : List Event) (event : Event) → SaysNoMore event.kind → StandsMore opening before (before ++ event ∷ [])
one_more opening before event says = record {
  acked = λ number.
      ap (λ (l : List ℕ). acknowledged_at_opening opening number ++ l)
      (filter_map-append (λ (event : Event). acknowledger number event.kind) before (event ∷ [])
      ∙ ap (λ (o : Option ℕ). all_told (acknowledger number) before ++ cons_option o []) (says.acked number)
      ∙ append-nil (all_told (acknowledger number) before));
  retired = λ number.
      list_any-append (λ (event : Event). retires number event.kind) before (event ∷ [])
      ∙ ap (λ (t : Bool). is_retired number before || (t || false)) (says.retired number) ∙ or_false (is_retired number before);
  halted = fold_push (λ told (event : Event). newer (halt_count Manager event.kind) told) None before event
      ∙ ap (λ (o : Option (Option ℕ)). newer o (halt_of Manager before)) says.halted;
}

more_behind : (opening : Opening) (behind before : List Event) → IsLegalFrom opening before behind
    → ((event : Event) → Contains behind event → event.seat ≢ scm_seat) → ((event : Event) → Contains behind event → event.seat ≢ flusher_seat)
    → StandsMore opening before (before ++ behind)
more_behind opening [] before legal of_scm of_flusher =
    subst (StandsMore opening before) (sym (append-nil before)) (record { acked = λ number. refl; retired = λ number. refl; halted = refl })
more_behind opening (event ∷ behind) before legal of_scm of_flusher =
    let says = no_more opening before event.seat event.kind (legal_first opening before event behind legal) (of_scm event (0, omega arith, refl))
    (of_flusher event (0, omega arith, refl)) in
    let first = one_more opening before event says in
    let second = more_behind opening behind (before ++ event ∷ []) (legal_rest opening before event behind legal)
    (λ later (k, lt, is). of_scm later (suc k, omega (arith, lt), is)) (λ later (k, lt, is). of_flusher later (suc k, omega (arith, lt), is)) in
    subst (StandsMore opening before) (moved_over before behind event) (record {
      acked = λ number. second.acked number ∙ first.acked number;
      retired = λ number. second.retired number ∙ first.retired number;
      halted = second.halted ∙ first.halted;
    })

none_of : (seat : ℕ) (place behind : List Event) → mine seat (place ++ behind) ≡ mine seat place → (event : Event) → Contains behind event
    → event.seat ≢ seat
none_of seat place behind same event there is =
    let test = λ (event : Event). event.seat == seat in
    let none : mine seat behind ≡ [] = append_cancel_left (mine seat place) (mine seat behind) []
    (sym (filter-append test place behind) ∙ same ∙ sym (append-nil (mine seat place))) in
    in_none event (subst (λ (l : List Event). Contains l event) none (filtered test behind event there (eq-eqb event.seat seat is)))

-- ---- so what a drain was done or held with stays

module _ (opening : Opening) (place behind : List Event) (legal : IsLegal opening (place ++ behind))
    (gave : AllGaveNothing opening place (place ++ behind)) (line : Line) (start : List Event) (is : IsStart place line start) where
  still : StandsStill opening place (place ++ behind)
  still = stands_still opening place behind legal gave.others

  more : StandsMore opening place (place ++ behind)
  more =
      more_behind opening behind place (legal_behind opening [] place behind legal) (none_of scm_seat place behind gave.others.scm)
      (none_of flusher_seat place behind gave.flusher)

  is_later : IsStart (place ++ behind) line start
  is_later = record {
    behind = is.behind ++ behind;
    parts = ap (λ (l : List Event). l ++ behind) is.parts ∙ append_assoc start is.behind behind;
    started = is.started;
    first = is.first;
  }

  was_before : (block : Block) → WasGarbage opening (place ++ behind) line block → WasGarbage opening place line block
  was_before block was = was_garbage opening place start line block is (garbage_at_start opening (place ++ behind) start line block is_later was)

  was_later : (block : Block) → WasGarbage opening place line block → WasGarbage opening (place ++ behind) line block
  was_later block was = was_garbage opening (place ++ behind) start line block is_later (garbage_at_start opening place start line block is was)

  held_before : (block : Block) (dn : ℕ) → holds opening (place ++ behind) dn block ≡ true → holds opening place dn block ≡ true
  held_before block dn held = sym (still.held dn block) ∙ held

  members_still : (number : ℕ) → members opening (place ++ behind) number ≡ members opening place number
  members_still number =
      ap (λ (all : Containers). option_map_or (λ (container : Container). members_of (length opening.nodes) container.pipeline) (get all number) [])
      still.containers

  finished_still : (txn : Txn) → IsFinished opening place txn → IsFinished opening (place ++ behind) txn
  finished_still txn finished = record {
    acknowledged = subst
        (All (λ dn. is_up dn (place ++ behind) ≡ true → Contains (acknowledgers opening (place ++ behind) txn.number) dn))
        (sym (members_still txn.container))
        (λ k d lt up. subst (λ (l : List ℕ). Contains l (get_or (members opening place txn.container) k d)) (sym (more.acked txn.number))
        (finished.acknowledged k d lt (sym (still.up (get_or (members opening place txn.container) k d)) ∙ up)));
    retired = λ all. more.retired txn.number
        ∙ finished.retired (subst (λ (l : List ℕ). All (Contains l) (members opening place txn.container)) (more.acked txn.number)
        (subst (All (Contains (acknowledgers opening (place ++ behind) txn.number))) (members_still txn.container) all));
  }

  pub drained_still : IsDrained opening place line → IsDrained opening (place ++ behind) line
  drained_still drained = record {
    gone = λ block dn was held. drained.gone block dn (was_before block was) (held_before block dn held);
    finished = λ block txn was there names. finished_still txn
        (drained.finished block txn (was_before block was) (subst (λ (l : List Txn). Contains l txn) still.logs there) names);
  }

  pub held_still : (dn : ℕ) → IsHeld opening place line dn → IsHeld opening (place ++ behind) line dn
  held_still dn held = record {
    drains = held.drains;
    manager_unhalted = more.halted ∙ held.manager_unhalted;
    scm_unhalted = still.halt ∙ held.scm_unhalted;
    none_up = λ block other was holding up.
        held.none_up block other (was_before block was) (held_before block other holding) (sym (still.up other) ∙ up);
    holding = record {
      down = still.up dn ∙ held.holding.down;
      block = held.holding.block;
      garbage = was_later held.holding.block held.holding.garbage;
      held = still.held dn held.holding.block ∙ held.holding.held;
    };
    lowest = λ lower lt it. held.lowest lower lt (record {
      down = sym (still.up lower) ∙ it.down;
      block = it.block;
      garbage = was_before it.block it.garbage;
      held = held_before it.block lower it.held;
    });
  }

  pub drain_done_still : (it : Values) → AdminIsDone opening place line admin.Drain it → AdminIsDone opening (place ++ behind) line admin.Drain it
  drain_done_still it (manager, scm, drained, deleted, is_value) =
      (more.halted ∙ manager, still.halt ∙ scm, drained_still drained, empty_are_deleted_still opening place behind still line deleted, is_value)
