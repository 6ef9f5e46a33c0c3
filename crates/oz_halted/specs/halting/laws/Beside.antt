-- What a datanode was to make it still may, as others go on.
use Rattle.std.proofs.Common.{◌≡◌, ◌≢◌, ⊎_elim, ℕ, ◌==◌, Bool, true, false, ◌&&◌, ◌||◌, List, [], ◌∷◌, ◌++◌, filter}
use Rattle.std.proofs.Common.{Option, None, Some, is_none, cond, inl, inr, refl, sym, ◌∙◌, ap, append-nil}
use Rattle.std.proofs.lemmas.Bool.{eqb-true}
use Rattle.std.proofs.lemmas.List.Folds.{list_any-append}
use Rattle.std.proofs.lemmas.List.Sums.{fold_push}
use Rattle.std.proofs.lemmas.List.Elements.{filter_map-append}
use Rattle.std.specs.Prelude.{IfSome, map}
use Rattle.std.specs.List.{cons_option}
use Rattle.oz_dellog.specs.declared.txn.Txn.{Txn}
use Rattle.oz_fields.specs.declared.block.Block.{Block}
use Rattle.oz_requests.specs.declared.request.AskId.{AskId}
use Rattle.oz_script.specs.declared.lines.script.Script.{Script}
use Rattle.oz_entries.specs.declared.entry.Entry.{Entry}
use Rattle.oz_entries.specs.declared.entry.Entry.TheVariants as entries
use Rattle.oz_entries.specs.declared.row.BlockRow.{BlockRow}
use Rattle.oz_entries.specs.Node.{Node}
use Rattle.oz_core.specs.declared.event.Event.{Event}
use Rattle.oz_core.specs.declared.event.EventKind.{EventKind}
use Rattle.oz_core.specs.declared.event.EventKind.TheVariants.{Halt, Stop, Start}
use Rattle.oz_core.specs.declared.event.Node.TheVariants.{Manager, Scm, Datanode}
use Rattle.oz_core.specs.declared.opening.Opening.{Opening}
use Rattle.oz_core.specs.declared.opening.Unretired.{Unretired}
use Rattle.oz_core.specs.Contents.{OpeningBytes, WasGranted}
use Rattle.oz_core.specs.Fits.{EventFits, FitsFrom, HasLength}
use Rattle.oz_core.specs.Law.{IsLegal, IsEnabled, KindIsEnabled, puts_or_copies, comes_to_copies}
use Rattle.oz_core.specs.Manager.{halt_count, halt_of}
use Rattle.oz_core.specs.Nodes.{holds, is_closed, is_running, stopped_or_started}
use Rattle.oz_core.specs.Scm.{logs, logged, is_in_logs, is_logged}
use Rattle.oz_core.specs.Seats.{datanode_seat}
use Rattle.oz_core.specs.Stories.{all_told, has_event, last_told, newer}
use Rattle.oz_kept.specs.laws.Contents.{granted_still, unasked_again}
use Rattle.oz_kept.specs.reopened.laws.Rising.{member_stays}
use Rattle.oz_halted.specs.Missing.{LogIsNumbered}
use Rattle.oz_halted.specs.halting.Leaves.{Leaves, Remains}
use Rattle.oz_halted.specs.halting.Story.{WasToPut, WasToCopy, WasToApply, WasToMake}
use Rattle.oz_halted.specs.halting.laws.Going.{contents_last}
use Rattle.oz_halted.specs.halting.laws.Making.{of_unchanged}
use Rattle.oz_halted.specs.halting.laws.OneLog.{AreApart, log_grows, lengths_grow, holds_then, closed_then}
use Rattle.oz_halted.specs.halting.laws.Unchanged.{changes, holds_still, closed_still, others_change_nothing}
use Rattle.oz_halted.specs.laws.Lasting.{content_behind}
use Rattle.oz_halted.specs.laws.Numbered.{are_numbered}
use Rattle.oz_halted.specs.laws.Resting.{fits_on, legal_on}

-- ---- another seat neither halts the datanode, nor stops or starts it

module _ (opening : Opening) (before : List Event) (dn seat : ℕ) (other : seat ≢ datanode_seat dn) where
  not_it : (number : ℕ) → seat ≡ datanode_seat number → (dn == number) ≡ false
  not_it number its = by (dn == number) refl
    where
      by : (t : Bool) → (dn == number) ≡ t → t ≡ false
      by true e = absurd (other (its ∙ ap datanode_seat (sym (eqb-true dn number e))))
      by false e = refl

  nor_it : (number : ℕ) → seat ≡ datanode_seat number → (number == dn) ≡ false
  nor_it number its = by (number == dn) refl
    where
      by : (t : Bool) → (number == dn) ≡ t → t ≡ false
      by true e = absurd (other (its ∙ ap datanode_seat (eqb-true number dn e)))
      by false e = refl

  no_halt : (kind : EventKind) → KindIsEnabled opening before seat kind → halt_count (Datanode dn) kind ≡ None
  no_halt (Halt Manager count) enabled = refl
  no_halt (Halt Scm count) enabled = refl
  no_halt (Halt (Datanode number) count) enabled =
      ap (λ (t : Bool). cond t (Some (Some count)) None) (not_it number enabled.of_node.its)
  no_halt kind enabled = refl

  no_stop : (kind : EventKind) → KindIsEnabled opening before seat kind → stopped_or_started dn kind ≡ None
  no_stop (Stop number) enabled = ap (λ (t : Bool). cond t (Some false) None) (nor_it number enabled.of_datanode.its)
  no_stop (Start number) enabled = ap (λ (t : Bool). cond t (Some true) None) (nor_it number enabled.of_datanode.its)
  no_stop kind enabled = refl

  pub runs_beside : (kind : EventKind) → KindIsEnabled opening before seat kind
      → is_running dn (before ++ record { seat = seat; kind = kind } ∷ []) ≡ is_running dn before
  runs_beside kind enabled =
      let event : Event = record { seat = seat; kind = kind } in
      ap (λ (o : Option ℕ). is_none o && last_told (stopped_or_started dn) true (before ++ event ∷ []))
      (fold_push (λ (told : Option ℕ) (event : Event). newer (halt_count (Datanode dn) event.kind) told) None before event
      ∙ ap (λ (o : Option (Option ℕ)). newer o (halt_of (Datanode dn) before)) (no_halt kind enabled))
      ∙ ap (λ (t : Bool). is_none (halt_of (Datanode dn) before) && t)
      (fold_push (λ (told : Bool) (event : Event). newer (stopped_or_started dn event.kind) told) true before event
      ∙ ap (λ (o : Option Bool). newer o (last_told (stopped_or_started dn) true before)) (no_stop kind enabled))

-- ---- what it was to make

same_filtered : {A : Type 0} (p q : A → Bool) → ((x : A) → p x ≡ q x) → (l : List A) → filter p l ≡ filter q l
same_filtered p q same [] = refl
same_filtered p q same (x ∷ l) =
    ap (λ (t : Bool). cond t (x ∷ filter p l) (filter p l)) (same x)
    ∙ ap (λ rest. cond (q x) (x ∷ rest) rest) (same_filtered p q same l)

module _ (opening : Opening) (bytes : OpeningBytes) (script : Script) (numbered : LogIsNumbered opening) (before : List Event)
    (legal : IsLegal opening before) (fits : FitsFrom opening bytes script [] before) (event : Event)
    (enabled : IsEnabled opening before event) (its_fit : EventFits opening bytes script before event.kind) (dn : ℕ)
    (other : event.seat ≢ datanode_seat dn) where
  abbrev then : List Event
  then = before ++ event ∷ []

  none : changes dn event.kind ≡ false
  none = others_change_nothing dn opening before event.seat event.kind enabled other

  no_event : has_event (changes dn) (event ∷ []) ≡ false
  no_event = ap (λ (t : Bool). t || false) none

  then_legal : IsLegal opening then
  then_legal = legal_on opening [] before event legal enabled

  then_fits : FitsFrom opening bytes script [] then
  then_fits = fits_on opening bytes script [] before event fits its_fit

  apart : AreApart (logs opening then)
  apart = (are_numbered opening then numbered then_legal).apart

  holds_beside : (block : Block) → holds opening then dn block ≡ holds opening before dn block
  holds_beside block =
      holds_then opening before (event ∷ []) legal apart dn block
      ∙ holds_still dn (event ∷ []) no_event (logs opening then) block (holds opening before dn block)

  closed_beside : (container : ℕ) → is_closed opening then dn container ≡ is_closed opening before dn container
  closed_beside container =
      closed_then opening before (event ∷ []) legal apart dn container
      ∙ closed_still dn (event ∷ []) no_event container (is_closed opening before dn container)

  granted_beside : (id : AskId) (block : Block) (place : List Event) → WasGranted before id block place → WasGranted then id block place
  granted_beside id block place granted =
      granted_still before event id block place
      (unasked_again opening bytes script before legal fits event.seat event.kind enabled id block place granted) granted

  length_beside : (block : Block) (count : ℕ) → HasLength opening bytes script before block count → HasLength opening bytes script then block count
  length_beside block count has = record {
    content = has.content;
    its = content_behind opening bytes script before (event ∷ []) then_legal then_fits block has.content has.its;
    whole = has.whole;
  }

  had_beside : (is : EventKind → Bool) → has_event is before ≡ true → has_event is then ≡ true
  had_beside is has =
      list_any-append (λ (e : Event). is e.kind) before (event ∷ [])
      ∙ ap (λ (t : Bool). t || (is event.kind || false)) has

  pub to_put_beside : (block : Block) (row : BlockRow) → WasToPut opening bytes script before dn block row → WasToPut opening bytes script then dn block row
  to_put_beside block row put = record {
    id = put.id;
    first = put.first;
    enabled = record {
      of_datanode = put.enabled.of_datanode;
      runs = runs_beside opening before dn event.seat other event.kind enabled ∙ put.enabled.runs;
      member = member_stays opening before (event ∷ []) block.container dn put.enabled.member;
      unclosed = closed_beside block.container ∙ put.enabled.unclosed;
      new = holds_beside block ∙ put.enabled.new;
      before = put.enabled.before;
      granted = granted_beside put.id block put.enabled.before put.enabled.granted;
      place = put.enabled.place;
      some = put.enabled.some;
      within = put.enabled.within;
    };
    content = length_beside block row.length put.content;
  }

  pub to_apply_beside : (txn : Txn) → WasToApply opening before dn txn → WasToApply opening then dn txn
  to_apply_beside txn apply = record {
    locals = apply.locals;
    enabled = record {
      of_datanode = apply.enabled.of_datanode;
      runs = runs_beside opening before dn event.seat other event.kind enabled ∙ apply.enabled.runs;
      txn = apply.enabled.txn;
      logged = log_grows opening before (event ∷ []) apply.enabled.txn apply.enabled.logged;
      of_number = apply.enabled.of_number;
      member = member_stays opening before (event ∷ []) apply.enabled.txn.container dn apply.enabled.member;
      held = apply.enabled.held
          ∙ same_filtered (λ local. holds opening before dn (record { container = apply.enabled.txn.container; local = local }))
          (λ local. holds opening then dn (record { container = apply.enabled.txn.container; local = local }))
          (λ local. sym (holds_beside (record { container = apply.enabled.txn.container; local = local }))) apply.enabled.txn.locals;
    };
    its = apply.its;
  }

  -- a block is copied where no transaction names it, so no other may have logged one
  pub to_copy_beside : (block : Block) (row : BlockRow) → is_logged opening then block ≡ false → WasToCopy opening before dn block row
      → WasToCopy opening then dn block row
  to_copy_beside block row unlogged copy = record {
    source = copy.source;
    enabled = record {
      of_target = copy.enabled.of_target;
      runs = runs_beside opening before dn event.seat other event.kind enabled ∙ copy.enabled.runs;
      lacks = holds_beside block ∙ copy.enabled.lacks;
      from_member = member_stays opening before (event ∷ []) block.container copy.source copy.enabled.from_member;
      to_member = member_stays opening before (event ∷ []) block.container dn copy.enabled.to_member;
      had = ⊎_elim (λ had. inl (had_beside (puts_or_copies copy.source block) had)) (λ was. inr was) copy.enabled.had;
      quasi_closed_or_closed = ⊎_elim (λ had. inl (had_beside (comes_to_copies block.container) had)) (λ was. inr was)
          copy.enabled.quasi_closed_or_closed;
      unlogged = unlogged;
    };
    told = lengths_grow opening before (event ∷ []) block row.length copy.told;
  }

  module _ (unlogged : logged event.kind ≡ None) where
    same_log : logs opening then ≡ logs opening before
    same_log =
        let all = map (λ (unretired : Unretired). unretired.txn) opening.unretired in
        ap (λ (l : List Txn). all ++ l)
        (filter_map-append (λ (e : Event). logged e.kind) before (event ∷ [])
        ∙ ap (λ (o : Option Txn). all_told logged before ++ cons_option o []) unlogged ∙ append-nil (all_told logged before))

    pub to_make_beside : (was : Node) (entry : Entry) → WasToMake opening bytes script before dn was entry
        → WasToMake opening bytes script then dn was entry
    to_make_beside was (entries.Put block row) (inl put) = inl (to_put_beside block row put)
    to_make_beside was (entries.Put block row) (inr copy) =
        inr (to_copy_beside block row (ap (λ (l : List Txn). is_in_logs l block) same_log ∙ copy.enabled.unlogged) copy)
    to_make_beside was (entries.SetState container state) made = tt
    to_make_beside was (entries.Apply txn) apply = to_apply_beside txn apply
    to_make_beside was (entries.Drop container) none_held = none_held

    any_beside : (was : Node) (entry : Option Entry) → IfSome entry (WasToMake opening bytes script before dn was)
        → IfSome entry (WasToMake opening bytes script then dn was)
    any_beside was None made = tt
    any_beside was (Some entry) made = to_make_beside was entry made

    -- An event of another seat that logs nothing keeps what a datanode leaves.
    pub leaves_beside : (remains : Remains) → Leaves opening bytes script before dn remains → Leaves opening bytes script then dn remains
    leaves_beside remains leaves = record {
      was = leaves.was;
      stands = of_unchanged opening numbered before legal dn event.seat event.kind enabled none leaves.was leaves.stands;
      entry = leaves.entry;
      to_make = any_beside leaves.was leaves.entry leaves.to_make;
      kept = leaves.kept;
      contents = λ node given remain.
          contents_last opening bytes script before legal fits event enabled its_fit node given (leaves.contents node given remain);
    }
