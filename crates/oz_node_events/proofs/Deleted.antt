-- Behind the Delete of a transaction the seat stands for the datanode that holds none of its blocks.
use Rattle.std.proofs.Common.{◌≡◌, ℕ, suc, Bool, true, false, ◌&&◌, ◌||◌, ◌==◌, max, cond, List, [], ◌∷◌, ◌++◌, filter, Contains, Option, None, Some, Result, Ok, Err, eq-eqb, refl, sym, ap, ◌∙◌, subst, arith}
use Rattle.std.proofs.lemmas.Bool.{and_from, and_parts, eqb-true, false≢true}
use Rattle.std.specs.Prelude.{IfErr, IfOk, IfSome, IsSome, IsSomeAnd, is_none, is_some, not}
use Rattle.std.specs.List.{list_any}
use Rattle.oz_block.specs.Blocks.{StandsFor as StandsForNode}
use Rattle.oz_buffer.specs.Buffer.{AllFollow, Follows}
use Rattle.oz_buffer.specs.laws.Following.{told-push}
use Rattle.oz_container.specs.declared.state.State.{State as ReplicaState}
use Rattle.oz_core.specs.declared.event.Event.{Event}
use Rattle.oz_core.specs.declared.event.EventKind.{EventKind}
use Rattle.oz_core.specs.declared.event.EventKind.TheVariants.{Delete}
use Rattle.oz_core.specs.declared.event.Node.{Node}
use Rattle.oz_core.specs.declared.event.Node.TheVariants.{Datanode}
use Rattle.oz_core.specs.declared.opening.Opening.{Opening}
use Rattle.oz_core.specs.Contents.{OpeningBytes}
use Rattle.oz_core.specs.Manager.{halt_count, halt_of}
use Rattle.oz_core.specs.Nodes.{closed_after, deletes, holds, is_running, stopped_or_started, was_closed}
use Rattle.oz_core.specs.Scm.{logs, members}
use Rattle.oz_core.specs.Stories.{last_told, newer}
use Rattle.oz_datanode.specs.Changing.{held_count}
use Rattle.oz_datanode.specs.Datanode.{State, Runs, count_of, is_halted, meta_of, node_in}
use Rattle.oz_datanode.specs.Writing.{is_open}
use Rattle.oz_dellog.specs.declared.txn.Txn.{Txn}
use Rattle.oz_entries.specs.Node.{Node as Held, is_held, names}
use Rattle.oz_entries.specs.declared.row.BlockRow.{BlockRow}
use Rattle.oz_fields.specs.declared.block.Block.{Block}
use Rattle.oz_kept.specs.laws.Deleted.{one_passes}
use Rattle.oz_kept.specs.reopened.Left.{NumbersAreApart, greatest_of, is_txn_of}
use Rattle.oz_kept.specs.reopened.laws.Rising.{member_stays}
use Rattle.oz_script.specs.declared.lines.script.Script.{Script}
use Rattle.oz_turn.specs.Told.{BeginsWith}
use Rattle.oz_world.specs.Disk.{Images}
use Rattle.oz_node_events.specs.declared.refusal.ChangeRefusal.{ChangeRefusal}
use Rattle.oz_node_events.specs.Changing.{ComesOf, IsGiven, IsRefusedFor, change_kind, with_given}
use Rattle.oz_node_events.specs.Commands.{by_node}
use Rattle.oz_node_events.specs.Deleting.{HasApplied, MayApply, as_done, delete_kind, held_locals}
use Rattle.oz_node_events.specs.NodeSeat.{IsAppended, IsKept, NumbersAreOld, SeatView, StandsFor, events_of}
use Rattle.oz_node_events.specs.laws.Contents.{content_push}
use Rattle.oz_node_events.specs.laws.Disks.{both_tell, no_fewer_then}
use Rattle.oz_node_events.proofs.Apart.{AreApart, log_grows, logs_apart}
use Rattle.oz_node_events.proofs.Changed.{comes_of, may_tell}
use Rattle.oz_node_events.proofs.Commanding.{event_stands}
use Rattle.oz_node_events.proofs.Following.{not_halted, not_stopped}
use Rattle.oz_node_events.proofs.Greatest.{greatest_push}
use Rattle.oz_node_events.proofs.Holding.{holds_push}
use Rattle.oz_node_events.proofs.Moving.{length_longer, stands_on}
use Rattle.oz_node_events.proofs.Noted.{ready_stands}
use Rattle.oz_node_events.proofs.Telling.{halt_own, line_own}

-- ---- lists of local ids

module _ (p : ℕ → Bool) (n : ℕ) where
  any_kept : (l : List ℕ) → p n ≡ true → list_any (λ x. x == n) l ≡ true → list_any (λ x. x == n) (filter p l) ≡ true
  any_kept [] is some = some
  any_kept (x ∷ l) is some = by (x == n) refl (p x) refl (any_kept l is)
    where
      by : (t : Bool) → (x == n) ≡ t → (k : Bool) → p x ≡ k → (list_any (λ x. x == n) l ≡ true → list_any (λ x. x == n) (filter p l) ≡ true)
          → list_any (λ x. x == n) (filter p (x ∷ l)) ≡ true
      by true same true kept rest =
          ap (λ (k : Bool). list_any (λ x. x == n) (cond k (x ∷ filter p l) (filter p l))) kept ∙ ap (λ (t : Bool). t || list_any (λ x. x == n) (filter p l)) same
      by true same false left rest = absurd (false≢true (sym left ∙ (ap p (eqb-true x n same) ∙ is)))
      by false other true kept rest =
          ap (λ (k : Bool). list_any (λ x. x == n) (cond k (x ∷ filter p l) (filter p l))) kept
          ∙ (ap (λ (t : Bool). t || list_any (λ x. x == n) (filter p l)) other
          ∙ rest (sym (ap (λ (t : Bool). t || list_any (λ x. x == n) l) other) ∙ some))
      by false other false left rest =
          ap (λ (k : Bool). list_any (λ x. x == n) (cond k (x ∷ filter p l) (filter p l))) left
          ∙ rest (sym (ap (λ (t : Bool). t || list_any (λ x. x == n) l) other) ∙ some)

  none_kept : (l : List ℕ) → list_any (λ x. x == n) l ≡ false → list_any (λ x. x == n) (filter p l) ≡ false
  none_kept [] none = none
  none_kept (x ∷ l) none = by (x == n) refl (p x) refl (none_kept l)
    where
      by : (t : Bool) → (x == n) ≡ t → (k : Bool) → p x ≡ k → (list_any (λ x. x == n) l ≡ false → list_any (λ x. x == n) (filter p l) ≡ false)
          → list_any (λ x. x == n) (filter p (x ∷ l)) ≡ false
      by true same k kept rest = absurd (false≢true (sym none ∙ ap (λ (t : Bool). t || list_any (λ x. x == n) l) same))
      by false other true kept rest =
          ap (λ (k : Bool). list_any (λ x. x == n) (cond k (x ∷ filter p l) (filter p l))) kept
          ∙ (ap (λ (t : Bool). t || list_any (λ x. x == n) (filter p l)) other
          ∙ rest (sym (ap (λ (t : Bool). t || list_any (λ x. x == n) l) other) ∙ none))
      by false other false left rest =
          ap (λ (k : Bool). list_any (λ x. x == n) (cond k (x ∷ filter p l) (filter p l))) left
          ∙ rest (sym (ap (λ (t : Bool). t || list_any (λ x. x == n) l) other) ∙ none)

-- ---- what a Delete takes away

no_such : (txns : List Txn) (number container : ℕ) → ((txn : Txn) → Contains txns txn → txn.number ≡ number → txn.container ≡ container → ⊥)
    → list_any (λ (txn : Txn). txn.number == number && txn.container == container) txns ≡ false
no_such [] number container none = refl
no_such (txn ∷ txns) number container none = by (txn.number == number && txn.container == container) refl
    (no_such txns number container (λ other there. none other (suc there.0, omega (arith, there.1), there.2)))
  where
    by : (t : Bool) → (txn.number == number && txn.container == container) ≡ t
        → list_any (λ (other : Txn). other.number == number && other.container == container) txns ≡ false
        → list_any (λ (other : Txn). other.number == number && other.container == container) (txn ∷ txns) ≡ false
    by true is rest =
        let both = and_parts (txn.number == number) (txn.container == container) is in
        absurd (none txn (0, omega arith, refl) (eqb-true txn.number number both.0) (eqb-true txn.container container both.1))
    by false not rest = ap (λ (t : Bool). t || list_any (λ (other : Txn). other.number == number && other.container == container) txns) not ∙ rest

and_right : (t : Bool) → (t && false) ≡ false
and_right true = refl
and_right false = refl

module _ (txns : List Txn) (apart : AreApart txns) (txn : Txn) (there : Contains txns txn) (node : Held) (block : Block) where
  has : Txn → Bool
  has other = other.number == txn.number && other.container == block.container

  -- a block that is held and named goes
  named_goes : names txn block ≡ true → is_held node block ≡ true → deletes txns txn.number (held_locals node txn) block ≡ true
  named_goes named held =
      let both = and_parts (txn.container == block.container) (list_any (λ local. local == block.local) txn.locals) named in
      let same = eqb-true txn.container block.container both.0 in
      and_from (list_any (λ (other : Txn). other.number == txn.number && other.container == block.container) txns)
      (list_any (λ local. local == block.local) (held_locals node txn))
      (one_passes (λ (other : Txn). other.number == txn.number && other.container == block.container) txns txn there
      (and_from (txn.number == txn.number) (txn.container == block.container) (eq-eqb txn.number txn.number refl) both.0))
      (any_kept (λ local. is_held node (record { container = txn.container; local = local })) block.local txn.locals
      (ap (λ (n : ℕ). is_held node (record { container = n; local = block.local })) same ∙ held) both.1)

  -- and one that isn't named stays
  other_stays : names txn block ≡ false → deletes txns txn.number (held_locals node txn) block ≡ false
  other_stays unnamed = by (txn.container == block.container) refl
    where
      by : (t : Bool) → (txn.container == block.container) ≡ t → deletes txns txn.number (held_locals node txn) block ≡ false
      by true same =
          ap (λ (t : Bool). list_any (λ (other : Txn). other.number == txn.number && other.container == block.container) txns && t)
          (none_kept (λ local. is_held node (record { container = txn.container; local = local })) block.local txn.locals
          (sym (ap (λ (t : Bool). t && list_any (λ local. local == block.local) txn.locals) same) ∙ unnamed))
          ∙ and_right (list_any (λ (other : Txn). other.number == txn.number && other.container == block.container) txns)
      by false apart_from =
          ap (λ (t : Bool). t && list_any (λ local. local == block.local) (held_locals node txn))
          (no_such txns txn.number block.container (λ other among number container.
          let one = ap (λ (t : Txn). t.container) (apart other txn among there number) in
          false≢true (sym apart_from ∙ eq-eqb txn.container block.container (sym one ∙ container))))

-- a transaction has its number in its own container alone
its_container : (txns : List Txn) → AreApart txns → (txn : Txn) → Contains txns txn → (container : ℕ)
    → list_any (is_txn_of txn.number container) txns ≡ (txn.container == container)
its_container txns apart txn there container = by (txn.container == container) refl
  where
    by : (t : Bool) → (txn.container == container) ≡ t → list_any (is_txn_of txn.number container) txns ≡ t
    by true same =
        one_passes (is_txn_of txn.number container) txns txn there
        (and_from (txn.number == txn.number) (txn.container == container) (eq-eqb txn.number txn.number refl) same)
    by false apart_from =
        no_such txns txn.number container (λ other among number its.
        let one = ap (λ (t : Txn). t.container) (apart other txn among there number) in
        false≢true (sym apart_from ∙ eq-eqb txn.container container (sym one ∙ its)))

taken : (gone named : Bool) (rows : Option BlockRow) → (named ≡ true → is_some rows ≡ true → gone ≡ true) → (named ≡ false → gone ≡ false)
    → newer (cond gone (Some false) None) (is_some rows) ≡ is_some (cond named None rows)
taken true true rows goes stays = refl
taken true false rows goes stays = absurd (false≢true (sym (stays refl)))
taken false true None goes stays = refl
taken false true (Some row) goes stays = absurd (false≢true (goes refl refl))
taken false false rows goes stays = refl

pub fewer : (named : Bool) (rows : Option BlockRow) (row : BlockRow) → cond named None rows ≡ Some row → rows ≡ Some row
fewer true rows row is = absurd cc
fewer false rows row is = is

pub still_held : (named : Bool) (rows : Option BlockRow) → is_some (cond named None rows) ≡ true → is_some rows ≡ true
still_held true rows is = absurd (false≢true is)
still_held false rows is = is

pub some_and : (o : Option (List ℕ)) (P : List ℕ → Type 0) → IsSome o → ((bytes : List ℕ) → o ≡ Some bytes → P bytes) → IsSomeAnd o P
some_and None P is each = absurd (false≢true is)
some_and (Some bytes) P is each = each bytes refl

-- ---- the event

module _ (Coherent : Type 0) (opening : Opening) (bytes : OpeningBytes) (script : Script) (loaded : Node → ℕ) {D : Type 0} (told : D → Option (List ℕ)) (clock : D → ℕ)
    (image : D → Images) (faults : D → ℕ) where
  abbrev Follow : List Event → Event → Type 0
  Follow = Follows Coherent opening bytes script

  abbrev Stands : SeatView → State D → Type 0
  Stands view node = StandsFor told clock image faults Coherent opening bytes script loaded view node

  -- a datanode that runs, runs by the story too
  pub runs_now : Coherent → (view : SeatView) (node : State D) → Stands view node → Runs faults node → (story : List Event) → AllFollow Follow [] story
      → events_of view.dn story ≡ view.mine → is_running view.dn story ≡ true
  runs_now coherent view node stood runs story all own =
      let halted = not_halted (is_halted node) (count_of faults node) _ runs in
      let stopped = not_stopped (is_halted node) node.stopped (count_of faults node) runs in
      ap (λ (o : Option ℕ). is_none o && last_told (stopped_or_started view.dn) true story)
      (halt_own Coherent opening bytes script view.dn story all
      ∙ (ap (halt_of (Datanode view.dn)) own ∙ (stood.halt ∙ ap (λ (t : Bool). cond t (Some (count_of faults node)) None) halted)))
      ∙ (line_own Coherent opening bytes script view.dn coherent story all
      ∙ (ap (last_told (stopped_or_started view.dn) true) own ∙ (stood.line ∙ ap not stopped)))

  module _ (view : SeatView) (kept : IsKept Coherent opening bytes script view) (txn : Txn) (old : State D) (stood : Stands view old) (other : List Event)
      (may : Coherent → MayApply opening other view.dn txn) where
    -- it may be told where the transaction is logged
    pub delete_follows : Runs faults old → (story : List Event) → BeginsWith story view.seen → BeginsWith story other → AllFollow Follow [] story
        → events_of view.dn story ≡ view.mine → Follow story (by_node view.dn (delete_kind view.dn (node_in old) txn))
    delete_follows runs story begins others all own = record {
      of_seat = tt;
      enabled = λ coherent.
          let here = stands_on told clock image faults Coherent opening bytes script loaded old view kept stood story view.room begins all own in
          let up = not_halted (is_halted old) (count_of faults old) _ runs in
          record {
            of_datanode = record { there = kept.there; its = refl };
            runs = runs_now coherent view old stood runs story all own;
            txn = txn;
            logged = subst (λ (l : List Event). Contains (logs opening l) txn) (sym others.1) (log_grows opening other others.0 txn (may coherent).logged);
            of_number = refl;
            member = subst (λ (l : List Event). Contains (members opening l txn.container) view.dn) (sym others.1)
                (member_stays opening other others.0 txn.container view.dn (may coherent).member);
            held = λ i. filter (λ (local : ℕ). sym (here.held coherent up (record { container = txn.container; local = local })) i) txn.locals;
          };
      fits = λ coherent. tt;
    }

  -- ---- behind it

  module _ (numbered : Coherent → NumbersAreOld opening) (apart : Coherent → NumbersAreApart opening) (dn room : ℕ) (last : List ℕ) (before mine : List Event) (all : AllFollow Follow [] before)
      (old new : State D) (stood : Stands (record { dn = dn; seen = before; mine = mine; room = room; last = last }) old) (txn : Txn)
      (logged : Coherent → Contains (logs opening before) txn) (applied : HasApplied told clock image faults txn old new) where
    abbrev event : Event
    event = by_node dn (delete_kind dn (node_in old) txn)

    ran : is_halted old ≡ false
    ran = not_halted (is_halted old) (count_of faults old) _ applied.ran

    runs : is_halted new ≡ false
    runs = not_halted (is_halted new) (count_of faults new) _ applied.runs

    was_held : (block : Block) → is_held (node_in new) block ≡ true → is_held (node_in old) block ≡ true
    was_held block is =
        still_held (names txn block) ((node_in old).rows block) (sym (ap (λ (o : Option BlockRow). is_some o) (applied.rows block)) ∙ is)

    held_then : Coherent → Follow before event → (block : Block) → holds opening (before ++ event ∷ []) dn block ≡ is_held (node_in new) block
    held_then coherent follows block =
        let gone = deletes (logs opening before) txn.number (held_locals (node_in old) txn) block in
        let one = logs_apart Coherent opening bytes script coherent (numbered coherent) (apart coherent) before all in
        holds_push Coherent opening bytes script coherent (numbered coherent) dn block before event all follows
        ∙ (ap (λ (t : Bool). newer (cond (t && gone) (Some false) None) (holds opening before dn block)) (eq-eqb dn dn refl)
        ∙ (ap (λ (t : Bool). newer (cond gone (Some false) None) t) (stood.held coherent ran block)
        ∙ (taken gone (names txn block) ((node_in old).rows block)
        (named_goes (logs opening before) one txn (logged coherent) (node_in old) block)
        (other_stays (logs opening before) one txn (logged coherent) (node_in old) block)
        ∙ sym (ap (λ (o : Option BlockRow). is_some o) (applied.rows block)))))

    greatest_then : Coherent → Follow before event → (container : ℕ)
        → greatest_of opening (before ++ event ∷ []) dn container ≡ (node_in new).greatest container
    greatest_then coherent follows container =
        let most = greatest_of opening before dn container in
        let one = logs_apart Coherent opening bytes script coherent (numbered coherent) (apart coherent) before all in
        greatest_push Coherent opening bytes script coherent (numbered coherent) dn container before event all follows
        ∙ (ap (λ (t : Bool). cond (t && list_any (is_txn_of txn.number container) (logs opening before)) (max most txn.number) most) (eq-eqb dn dn refl)
        ∙ (ap (λ (t : Bool). cond t (max most txn.number) most) (its_container (logs opening before) one txn (logged coherent) container)
        ∙ (ap (λ (n : ℕ). cond (txn.container == container) (max n txn.number) n) (stood.greatest coherent ran container)
        ∙ sym (applied.greatest container))))

    delete_step : Follow before event
        → Stands (record { dn = dn; seen = before ++ event ∷ []; mine = mine ++ event ∷ []; room = room; last = last }) new
    delete_step follows = record {
      number = applied.id ∙ stood.number;
      halt = told-push (halt_count (Datanode dn)) None mine event
          ∙ (stood.halt
          ∙ (ap (λ (t : Bool). cond t (Some (count_of faults old)) None) ran
          ∙ sym (ap (λ (t : Bool). cond t (Some (count_of faults new)) None) runs)));
      line = told-push (stopped_or_started dn) true mine event ∙ (stood.line ∙ sym (ap not applied.line));
      tells = λ coherent. both_tell told faults old new applied.goes_on (stood.tells coherent);
      no_fewer = no_fewer_then told faults old new applied.goes_on (loaded (Datanode dn)) stood.no_fewer;
      rose = λ halted. absurd (false≢true (sym runs ∙ halted));
      held = λ coherent up block. held_then coherent follows block;
      whole = λ coherent up block row is.
          length_longer opening block row.length before (event ∷ [])
          (stood.whole coherent ran block row (fewer (names txn block) ((node_in old).rows block) row (sym (applied.rows block) ∙ is)));
      closed = λ coherent up container.
          told-push (closed_after dn container) (was_closed opening dn container) before event
          ∙ (stood.closed coherent ran container ∙ sym (ap (λ (s : ReplicaState). not (is_open s)) (applied.states container)));
      greatest = λ coherent up container. greatest_then coherent follows container;
      journal = λ coherent up.
          some_and (told (meta_of new)) (λ (l : List ℕ). StandsForNode l (node_in new))
          (both_tell told faults old new applied.goes_on (stood.tells coherent)).0 applied.stands;
      contents = λ coherent up.
          let had = stood.contents coherent ran in
          record {
            contents = had.contents;
            holds = applied.pairs had.contents had.holds;
            intact = λ block is. had.intact block (was_held block is);
            its = λ block is.
                content_push Coherent opening bytes script coherent before event all follows block (had.contents block).bytes
                (had.its block (was_held block is));
          };
    }

  pub delete_stands : (apart : Coherent → NumbersAreApart opening) (view later : SeatView) (old new : State D) (txn : Txn) (other : List Event)
      → IsKept Coherent opening bytes script view → IsKept Coherent opening bytes script later
      → Stands view old → (Coherent → Contains (logs opening other) txn) → HasApplied told clock image faults txn old new → later.dn ≡ view.dn
      → later.mine ≡ view.mine ++ by_node view.dn (delete_kind view.dn (node_in old) txn) ∷ []
      → IsAppended (by_node view.dn (delete_kind view.dn (node_in old) txn)) view.seen other later.seen → Stands later new
  delete_stands apart view later old new txn other kept kept_later stood logged applied number mine told_so =
      event_stands Coherent opening bytes script loaded told clock image faults (delete_kind view.dn (node_in old) txn) view later old new other kept kept_later stood number mine told_so
      (λ before others all follows here.
      delete_step kept.numbered apart view.dn view.room view.last before view.mine all old new here txn
      (λ coherent. subst (λ (l : List Event). Contains (logs opening l) txn) (sym others.1) (log_grows opening other others.0 txn (logged coherent)))
      applied follows)

  -- ---- whatever came of it

  abbrev pub Came : Txn → State D → State D → Result ℕ ChangeRefusal → Type 0
  Came txn old new result = IfOk result (λ count. HasApplied told clock image faults txn old new × (count ≡ held_count (node_in old) txn.container txn.locals))

  made_of : (txn : Txn) (old new : State D) (result : Result ℕ ChangeRefusal) → Came txn old new result → as_done result ≡ Ok tt → HasApplied told clock image faults txn old new
  made_of txn old new (Ok count) came is = came.0
  made_of txn old new (Err refusal) came is = absurd cc

  refused_of : (old new : State D) (result : Result ℕ ChangeRefusal) → IfErr result (IsRefusedFor told clock image faults old new)
      → IfErr (as_done result) (IsRefusedFor told clock image faults old new)
  refused_of old new (Ok count) refused = tt
  refused_of old new (Err refusal) refused = refused

  pub delete_tells : (view : SeatView) → IsKept Coherent opening bytes script view → (txn : Txn) (old : State D) → Stands view old → (other : List Event)
      → (Coherent → MayApply opening other view.dn txn) → (new : State D) (result : Result ℕ ChangeRefusal) → Came txn old new result
      → IfErr result (IsRefusedFor told clock image faults old new)
      → IfSome (change_kind view.dn (Some (delete_kind view.dn (node_in old) txn)) (as_done result)) (λ kind. (story : List Event) → BeginsWith story view.seen → BeginsWith story other
      → AllFollow Follow [] story → events_of view.dn story ≡ view.mine → Follow story (by_node view.dn kind))
  delete_tells view kept txn old stood other may new result came refused =
      may_tell Coherent opening bytes script loaded told clock image faults view old new other (Some (delete_kind view.dn (node_in old) txn)) kept stood (as_done result)
      (refused_of old new result refused) (λ is. delete_follows view kept txn old stood other may (made_of txn old new result came is).ran)

  pub delete_comes : (first second later : SeatView) (other others : List Event) (old new : State D) (txn : Txn) → (Coherent → NumbersAreApart opening)
      → (Coherent → MayApply opening other first.dn txn) → IsKept Coherent opening bytes script first → IsKept Coherent opening bytes script second → IsKept Coherent opening bytes script later
      → Stands first old → second.dn ≡ first.dn → second.mine ≡ first.mine → second.last ≡ first.last → BeginsWith second.seen first.seen → BeginsWith others other
      → later.dn ≡ second.dn → later.last ≡ second.last
      → (result : Result ℕ ChangeRefusal) (kind : Option EventKind) → kind ≡ change_kind second.dn (Some (delete_kind second.dn (node_in old) txn)) (as_done result)
      → IsGiven second.dn kind second.seen others later.seen → later.mine ≡ with_given second.dn kind second.mine
      → Came txn old new result → IfErr result (IsRefusedFor told clock image faults old new) → new.shelf.written ≡ old.shelf.written
      → ComesOf told clock image faults Coherent opening bytes script loaded (Some (delete_kind first.dn (node_in old) txn)) other first later old new (as_done result)
  delete_comes first second later other others old new txn apart may kept kept_second kept_later stood dn mine last begins began number last_then result kind is given more came refused written =
      let stood_then = ready_stands Coherent opening bytes script loaded told clock image faults old first second kept kept_second dn mine begins stood in
      let done = as_done result in
      let given_then = subst (λ (k : Option EventKind). IsGiven second.dn k second.seen others later.seen) is given in
      let more_then = more ∙ ap (λ (k : Option EventKind). with_given second.dn k second.mine) is in
      subst (λ (n : ℕ). ComesOf told clock image faults Coherent opening bytes script loaded (Some (delete_kind n (node_in old) txn)) other first later old new done) dn
      (comes_of Coherent opening bytes script loaded told clock image faults (Some (delete_kind second.dn (node_in old) txn)) first second later other others old new kept kept_second kept_later stood dn mine last
      begins began number last_then done given_then more_then (refused_of old new result refused) written
      (λ ok. delete_stands apart second later old new txn others kept_second kept_later stood_then
      (λ coherent. subst (λ (l : List Event). Contains (logs opening l) txn) (sym began.1) (log_grows opening other began.0 txn (may coherent).logged))
      (made_of txn old new result came ok) number
      (more_then ∙ ap (λ (r : Result (Unit {0}) ChangeRefusal). with_given second.dn (change_kind second.dn (Some (delete_kind second.dn (node_in old) txn)) r) second.mine) ok)
      (subst (λ (r : Result (Unit {0}) ChangeRefusal). IsGiven second.dn (change_kind second.dn (Some (delete_kind second.dn (node_in old) txn)) r) second.seen others later.seen) ok given_then)))

-- what was logged, and who is a member, stays so
pub may_later : (opening : Opening) (before later : List Event) (dn number : ℕ) (txn : Txn) → number ≡ dn → BeginsWith later before → MayApply opening before dn txn → MayApply opening later number txn
may_later opening before later dn number txn its begins may = record {
  logged = subst (λ (l : List Event). Contains (logs opening l) txn) (sym begins.1) (log_grows opening before begins.0 txn may.logged);
  member = subst (λ (n : ℕ). Contains (members opening later txn.container) n) (sym its)
      (subst (λ (l : List Event). Contains (members opening l txn.container) dn) (sym begins.1) (member_stays opening before begins.0 txn.container dn may.member));
}

-- the event of this call
pub told_kind : (dn : ℕ) (node : Held) (txn : Txn) (number : ℕ) (locals : List ℕ) (done : Result (Unit {0}) ChangeRefusal) (result : Result ℕ ChangeRefusal) → number ≡ dn
    → locals ≡ held_locals node txn → done ≡ as_done result
    → change_kind number (Some (Delete number txn.number locals)) done ≡ change_kind dn (Some (delete_kind dn node txn)) (as_done result)
told_kind dn node txn number locals done result its held so = λ i. change_kind (its i) (Some (Delete (its i) txn.number (held i))) (so i)
