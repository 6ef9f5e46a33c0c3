-- Behind a replica that was closed, or dropped, the seat stands for the datanode as it is then.
use Rattle.std.proofs.Common.{◌≡◌, ◌≢◌, inl, inr, ⊎_elim, ℕ, Bool, true, false, ◌&&◌, ◌||◌, ◌==◌, cond, List, [], ◌∷◌, ◌++◌, Option, None, Some, Result, Ok, Err, eq-eqb, eqb-true, refl, sym, ap, ◌∙◌, subst}
use Rattle.std.proofs.lemmas.Bool.{false≢true}
use Rattle.std.proofs.lemmas.List.Folds.{list_any-append}
use Rattle.std.specs.Prelude.{IfErr, IfSome, OnOk, is_some, not}
use Rattle.oz_block.specs.Blocks.{StandsFor as StandsForNode}
use Rattle.oz_buffer.specs.Buffer.{AllFollow, Follows}
use Rattle.oz_buffer.specs.laws.Following.{told-push}
use Rattle.oz_container.specs.declared.state.State.{State as ReplicaState}
use Rattle.oz_container.specs.declared.state.State.TheVariants as states
use Rattle.oz_core.specs.declared.event.Event.{Event}
use Rattle.oz_core.specs.declared.event.EventKind.{EventKind}
use Rattle.oz_core.specs.declared.event.EventKind.TheVariants.{CloseCommand}
use Rattle.oz_core.specs.declared.event.Node.{Node}
use Rattle.oz_core.specs.declared.event.Node.TheVariants.{Datanode}
use Rattle.oz_core.specs.declared.opening.Opening.{Opening}
use Rattle.oz_core.specs.Contents.{OpeningBytes}
use Rattle.oz_core.specs.Law.{comes_to_a_state}
use Rattle.oz_core.specs.Manager.{halt_count}
use Rattle.oz_core.specs.Nodes.{closed_after, is_closed, stopped_or_started, was_closed}
use Rattle.oz_core.specs.Stories.{has_event, newer}
use Rattle.oz_datanode.specs.Changing.{IsJournaled}
use Rattle.oz_datanode.specs.Datanode.{State, DisksGoOn, Runs, count_of, is_halted, meta_of, node_in}
use Rattle.oz_datanode.specs.Pairs.{Content, NodeHolds, journal_seen}
use Rattle.oz_datanode.specs.Writing.{is_open}
use Rattle.oz_entries.specs.declared.entry.Entry.{Entry}
use Rattle.oz_entries.specs.declared.entry.Entry.TheVariants as entries
use Rattle.oz_entries.specs.declared.row.BlockRow.{BlockRow}
use Rattle.oz_entries.specs.Node.{Node as Held, is_held, is_in}
use Rattle.oz_fields.specs.declared.block.Block.{Block}
use Rattle.oz_script.specs.declared.lines.script.Script.{Script}
use Rattle.oz_turn.specs.Told.{BeginsWith}
use Rattle.oz_world.specs.Disk.{Images}
use Rattle.oz_node_events.specs.declared.refusal.ChangeRefusal.{ChangeRefusal}
use Rattle.oz_node_events.specs.Changing.{ComesOf, IsGiven, IsRefusedFor, change_kind, with_given}
use Rattle.oz_node_events.specs.Closing.{HasChanged, MayClose}
use Rattle.oz_node_events.specs.Commands.{by_node}
use Rattle.oz_node_events.specs.NodeSeat.{IsAppended, IsKept, NumbersAreOld, SeatView, StandsFor, events_of}
use Rattle.oz_node_events.specs.laws.Contents.{content_push}
use Rattle.oz_node_events.specs.laws.Disks.{both_tell, no_fewer_then}
use Rattle.oz_node_events.proofs.Changed.{changed_ok, comes_of, may_tell, still_runs}
use Rattle.oz_node_events.proofs.Commanding.{event_stands}
use Rattle.oz_node_events.proofs.Deleted.{fewer, runs_now, some_and, still_held}
use Rattle.oz_node_events.proofs.Following.{not_halted}
use Rattle.oz_node_events.proofs.Greatest.{greatest_push}
use Rattle.oz_node_events.proofs.Holding.{holds_push}
use Rattle.oz_node_events.proofs.Moving.{length_longer}
use Rattle.oz_node_events.proofs.Noted.{ready_stands}

-- ---- the journal has it

pub changed_so : {D : Type 0} (told : D → Option (List ℕ)) (clock : D → ℕ) (image : D → Images) (faults : D → ℕ) (old new : State D) → Runs faults old
    → ((contents : Block → Content) → NodeHolds told clock image faults contents old → NodeHolds told clock image faults contents new)
    → DisksGoOn told faults old new → (entry : Entry)
    → IsJournaled {T = Unit {0}} faults entry old new (journal_seen told clock image faults old) (journal_seen told clock image faults new) (Ok tt)
    → new.shelf ≡ old.shelf
    → (is_halted new ≡ false → (bytes : List ℕ) → told (meta_of new) ≡ Some bytes → StandsForNode bytes (node_in new))
    → HasChanged told clock image faults entry old new
changed_so told clock image faults old new ran pairs goes_on entry so shelf stands =
    let runs = still_runs told clock image faults old new ran pairs goes_on entry tt so (ap (λ s. s.failed) shelf) in
    record {
      ran = ran;
      runs = runs;
      id = so.id;
      line = so.line;
      made = (changed_ok told clock image faults old new ran pairs goes_on entry tt so).1.made;
      stands = stands (not_halted (is_halted new) (count_of faults new) _ runs);
      pairs = pairs;
      goes_on = goes_on;
    }

-- ---- the container has left the open state

pub close_later : (opening : Opening) (before more : List Event) (container : ℕ) → MayClose opening before container → MayClose opening (before ++ more) container
close_later opening before more container may =
    ⊎_elim
    (λ came. inl (list_any-append (λ (event : Event). comes_to_a_state container event.kind) before more
    ∙ ap (λ (t : Bool). t || has_event (comes_to_a_state container) more) came))
    (λ was. inr was)
    may

not_open : (state : ReplicaState) → state ≢ states.Open → is_open state ≡ false
not_open states.Open is = absurd (is refl)
not_open states.Closing is = refl
not_open states.QuasiClosed is = refl
not_open states.Closed is = refl
not_open states.Deleting is = refl
not_open states.Deleted is = refl

-- ---- a replica that comes to a state

closed_now : (t was : Bool) (state old : ReplicaState) → is_open state ≡ false → was ≡ not (is_open old)
    → newer (cond t (Some true) None) was ≡ not (is_open (cond t state old))
closed_now true was state old shut is = sym (ap not shut)
closed_now false was state old shut is = is

-- ---- a replica that goes

gone_row : (node : Held) (container : ℕ) → ((local : ℕ) → is_held node (record { container = container; local = local }) ≡ false) → (block : Block)
    → is_held node block ≡ is_some (cond (is_in container block) None (node.rows block))
gone_row node container empty block = by (is_in container block) refl
  where
    by : (t : Bool) → is_in container block ≡ t → is_held node block ≡ is_some (cond t None (node.rows block))
    by false is = refl
    by true is = sym (ap (λ (n : ℕ). is_held node (record { container = n; local = block.local })) (eqb-true container block.container is)) ∙ empty block.local

dropped : (t was : Bool) (old : ReplicaState) → was ≡ not (is_open old) → (t ≡ true → is_open old ≡ false) → was ≡ not (is_open (cond t states.Deleted old))
dropped true was old is shut = is ∙ ap not (shut refl)
dropped false was old is shut = is

module _ (Coherent : Type 0) (opening : Opening) (bytes : OpeningBytes) (script : Script) (loaded : Node → ℕ) {D : Type 0} (told : D → Option (List ℕ)) (clock : D → ℕ)
    (image : D → Images) (faults : D → ℕ) where
  abbrev Follow : List Event → Event → Type 0
  Follow = Follows Coherent opening bytes script

  abbrev Stands : SeatView → State D → Type 0
  Stands view node = StandsFor told clock image faults Coherent opening bytes script loaded view node

  pub close_follows : (view : SeatView) → IsKept Coherent opening bytes script view → (container : ℕ) (old : State D) → Stands view old → (other : List Event)
      → (Coherent → MayClose opening other container) → Runs faults old → (story : List Event) → BeginsWith story other → AllFollow Follow [] story
      → events_of view.dn story ≡ view.mine → Follow story (by_node view.dn (CloseCommand view.dn container))
  close_follows view kept container old stood other may runs story others all own = record {
    of_seat = tt;
    enabled = λ coherent. record {
      of_datanode = record { there = kept.there; its = refl };
      runs = runs_now Coherent opening bytes script loaded told clock image faults coherent view old stood runs story all own;
      closing = subst (λ (l : List Event). MayClose opening l container) (sym others.1) (close_later opening other others.0 container (may coherent));
    };
    fits = λ coherent. tt;
  }

  module _ (numbered : Coherent → NumbersAreOld opening) (dn room : ℕ) (last : List ℕ) (before mine : List Event) (all : AllFollow Follow [] before) (old new : State D)
      (stood : Stands (record { dn = dn; seen = before; mine = mine; room = room; last = last }) old) (container : ℕ) (state : ReplicaState) (shut : is_open state ≡ false)
      (changed : HasChanged told clock image faults (entries.SetState container state) old new) where
    abbrev event : Event
    event = by_node dn (CloseCommand dn container)

    ran : is_halted old ≡ false
    ran = not_halted (is_halted old) (count_of faults old) _ changed.ran

    runs : is_halted new ≡ false
    runs = not_halted (is_halted new) (count_of faults new) _ changed.runs

    same_rows : (block : Block) → (node_in new).rows block ≡ (node_in old).rows block
    same_rows block = ap (λ (n : Held). n.rows block) changed.made

    was_held : (block : Block) → is_held (node_in new) block ≡ true → is_held (node_in old) block ≡ true
    was_held block is = sym (ap (λ (o : Option BlockRow). is_some o) (same_rows block)) ∙ is

    close_step : Follow before event
        → Stands (record { dn = dn; seen = before ++ event ∷ []; mine = mine ++ event ∷ []; room = room; last = last }) new
    close_step follows = record {
      number = changed.id ∙ stood.number;
      halt = told-push (halt_count (Datanode dn)) None mine event
          ∙ (stood.halt
          ∙ (ap (λ (t : Bool). cond t (Some (count_of faults old)) None) ran
          ∙ sym (ap (λ (t : Bool). cond t (Some (count_of faults new)) None) runs)));
      line = told-push (stopped_or_started dn) true mine event ∙ (stood.line ∙ sym (ap not changed.line));
      tells = λ coherent. both_tell told faults old new changed.goes_on (stood.tells coherent);
      no_fewer = no_fewer_then told faults old new changed.goes_on (loaded (Datanode dn)) stood.no_fewer;
      rose = λ halted. absurd (false≢true (sym runs ∙ halted));
      held = λ coherent up block.
          holds_push Coherent opening bytes script coherent (numbered coherent) dn block before event all follows
          ∙ (stood.held coherent ran block ∙ sym (ap (λ (o : Option BlockRow). is_some o) (same_rows block)));
      whole = λ coherent up block row is.
          length_longer opening block row.length before (event ∷ []) (stood.whole coherent ran block row (sym (same_rows block) ∙ is));
      closed = λ coherent up number.
          told-push (closed_after dn number) (was_closed opening dn number) before event
          ∙ (ap (λ (t : Bool). newer (cond (t && container == number) (Some true) None) (is_closed opening before dn number)) (eq-eqb dn dn refl)
          ∙ (closed_now (container == number) (is_closed opening before dn number) state ((node_in old).states number) shut (stood.closed coherent ran number)
          ∙ sym (ap (λ (n : Held). not (is_open (n.states number))) changed.made)));
      greatest = λ coherent up number.
          greatest_push Coherent opening bytes script coherent (numbered coherent) dn number before event all follows
          ∙ (stood.greatest coherent ran number ∙ sym (ap (λ (n : Held). n.greatest number) changed.made));
      journal = λ coherent up.
          some_and (told (meta_of new)) (λ (l : List ℕ). StandsForNode l (node_in new))
          (both_tell told faults old new changed.goes_on (stood.tells coherent)).0 changed.stands;
      contents = λ coherent up.
          let had = stood.contents coherent ran in
          record {
            contents = had.contents;
            holds = changed.pairs had.contents had.holds;
            intact = λ block is. had.intact block (was_held block is);
            its = λ block is.
                content_push Coherent opening bytes script coherent before event all follows block (had.contents block).bytes
                (had.its block (was_held block is));
          };
    }

  pub close_stands : (view later : SeatView) (old new : State D) (container : ℕ) (state : ReplicaState) (other : List Event)
      → IsKept Coherent opening bytes script view → IsKept Coherent opening bytes script later
      → Stands view old → state ≢ states.Open → HasChanged told clock image faults (entries.SetState container state) old new → later.dn ≡ view.dn
      → later.mine ≡ view.mine ++ by_node view.dn (CloseCommand view.dn container) ∷ []
      → IsAppended (by_node view.dn (CloseCommand view.dn container)) view.seen other later.seen → Stands later new
  close_stands view later old new container state other kept kept_later stood shut changed number mine told_so =
      event_stands Coherent opening bytes script loaded told clock image faults (CloseCommand view.dn container) view later old new other kept kept_later stood number mine told_so
      (λ before others all follows here.
      close_step kept.numbered view.dn view.room view.last before view.mine all old new here container state (not_open state shut) changed follows)

  -- ---- no event tells of a replica that goes

  pub drop_stands : (view later : SeatView) (old new : State D) (container : ℕ) → IsKept Coherent opening bytes script view → IsKept Coherent opening bytes script later
      → Stands view old → ((local : ℕ) → is_held (node_in old) (record { container = container; local = local }) ≡ false)
      → is_open ((node_in old).states container) ≡ false → HasChanged told clock image faults (entries.Drop container) old new
      → later.dn ≡ view.dn → later.mine ≡ view.mine → BeginsWith later.seen view.seen → Stands later new
  drop_stands view later old new container kept kept_later stood empty shut changed number mine goes =
      let here : Stands later old = ready_stands Coherent opening bytes script loaded told clock image faults old view later kept kept_later number mine goes stood in
      let ran = not_halted (is_halted old) (count_of faults old) _ changed.ran in
      let runs = not_halted (is_halted new) (count_of faults new) _ changed.runs in
      let rows = λ (block : Block). ap (λ (n : Held). n.rows block) changed.made in
      let was_held : (block : Block) → is_held (node_in new) block ≡ true → is_held (node_in old) block ≡ true =
      λ block is. still_held (is_in container block) ((node_in old).rows block) (sym (ap (λ (o : Option BlockRow). is_some o) (rows block)) ∙ is) in
      record {
        number = changed.id ∙ here.number;
        halt = here.halt
            ∙ (ap (λ (t : Bool). cond t (Some (count_of faults old)) None) ran
            ∙ sym (ap (λ (t : Bool). cond t (Some (count_of faults new)) None) runs));
        line = here.line ∙ sym (ap not changed.line);
        tells = λ coherent. both_tell told faults old new changed.goes_on (here.tells coherent);
        no_fewer = no_fewer_then told faults old new changed.goes_on (loaded (Datanode later.dn)) here.no_fewer;
        rose = λ halted. absurd (false≢true (sym runs ∙ halted));
        held = λ coherent up block.
            here.held coherent ran block
            ∙ (gone_row (node_in old) container empty block ∙ sym (ap (λ (o : Option BlockRow). is_some o) (rows block)));
        whole = λ coherent up block row is.
            here.whole coherent ran block row (fewer (is_in container block) ((node_in old).rows block) row (sym (rows block) ∙ is));
        closed = λ coherent up other.
            dropped (container == other) (is_closed opening later.seen later.dn other) ((node_in old).states other) (here.closed coherent ran other)
            (λ same. ap (λ (n : ℕ). is_open ((node_in old).states n)) (sym (eqb-true container other same)) ∙ shut)
            ∙ sym (ap (λ (n : Held). not (is_open (n.states other))) changed.made);
        greatest = λ coherent up other.
            here.greatest coherent ran other ∙ sym (ap (λ (n : Held). n.greatest other) changed.made);
        journal = λ coherent up.
            some_and (told (meta_of new)) (λ (l : List ℕ). StandsForNode l (node_in new))
            (both_tell told faults old new changed.goes_on (here.tells coherent)).0 changed.stands;
        contents = λ coherent up.
            let had = here.contents coherent ran in
            record {
              contents = had.contents;
              holds = changed.pairs had.contents had.holds;
              intact = λ block is. had.intact block (was_held block is);
              its = λ block is. had.its block (was_held block is);
            };
      }

  -- ---- whatever came of them

  done_of : {P : Type 0} (result : Result (Unit {0}) ChangeRefusal) → OnOk result P → result ≡ Ok tt → P
  done_of (Ok it) done is = done
  done_of (Err refusal) done is = absurd cc

  pub close_tells : (view : SeatView) → IsKept Coherent opening bytes script view → (container : ℕ) (state : ReplicaState) (old : State D) → Stands view old → (other : List Event)
      → (Coherent → MayClose opening other container) → (new : State D) (result : Result (Unit {0}) ChangeRefusal)
      → OnOk result (HasChanged told clock image faults (entries.SetState container state) old new) → IfErr result (IsRefusedFor told clock image faults old new)
      → IfSome (change_kind view.dn (Some (CloseCommand view.dn container)) result) (λ kind. (story : List Event) → BeginsWith story view.seen → BeginsWith story other
      → AllFollow Follow [] story → events_of view.dn story ≡ view.mine → Follow story (by_node view.dn kind))
  close_tells view kept container state old stood other may new result came refused =
      may_tell Coherent opening bytes script loaded told clock image faults view old new other (Some (CloseCommand view.dn container)) kept stood result refused
      (λ is story begins others all own. close_follows view kept container old stood other may (done_of result came is).ran story others all own)

  pub drop_tells : (view : SeatView) → IsKept Coherent opening bytes script view → (old : State D) → Stands view old → (other : List Event) (new : State D)
      → (result : Result (Unit {0}) ChangeRefusal) → IfErr result (IsRefusedFor told clock image faults old new)
      → IfSome (change_kind view.dn None result) (λ kind. (story : List Event) → BeginsWith story view.seen → BeginsWith story other
      → AllFollow Follow [] story → events_of view.dn story ≡ view.mine → Follow story (by_node view.dn kind))
  drop_tells view kept old stood other new result refused =
      may_tell Coherent opening bytes script loaded told clock image faults view old new other None kept stood result refused (λ is. tt)

  module _ (first second later : SeatView) (other others : List Event) (old new : State D) (container : ℕ) (kept : IsKept Coherent opening bytes script first)
      (kept_second : IsKept Coherent opening bytes script second) (kept_later : IsKept Coherent opening bytes script later) (stood : Stands first old) (dn : second.dn ≡ first.dn)
      (mine : second.mine ≡ first.mine) (last : second.last ≡ first.last) (begins : BeginsWith second.seen first.seen) (began : BeginsWith others other) (number : later.dn ≡ second.dn)
      (last_then : later.last ≡ second.last) (result : Result (Unit {0}) ChangeRefusal) where
    stood_then : Stands second old
    stood_then = ready_stands Coherent opening bytes script loaded told clock image faults old first second kept kept_second dn mine begins stood

    pub close_comes : (state : ReplicaState) → state ≢ states.Open → (kind : Option EventKind) → kind ≡ change_kind second.dn (Some (CloseCommand second.dn container)) result
        → IsGiven second.dn kind second.seen others later.seen → later.mine ≡ with_given second.dn kind second.mine
        → OnOk result (HasChanged told clock image faults (entries.SetState container state) old new) → IfErr result (IsRefusedFor told clock image faults old new)
        → new.shelf.written ≡ old.shelf.written
        → ComesOf told clock image faults Coherent opening bytes script loaded (Some (CloseCommand first.dn container)) other first later old new result
    close_comes state shut kind is given more came refused written =
        let own = Some (CloseCommand second.dn container) in
        let given_then = subst (λ (k : Option EventKind). IsGiven second.dn k second.seen others later.seen) is given in
        let more_then = more ∙ ap (λ (k : Option EventKind). with_given second.dn k second.mine) is in
        subst (λ (n : ℕ). ComesOf told clock image faults Coherent opening bytes script loaded (Some (CloseCommand n container)) other first later old new result) dn
        (comes_of Coherent opening bytes script loaded told clock image faults (Some (CloseCommand second.dn container)) first second later other others old new kept kept_second kept_later stood dn mine last
        begins began number last_then result given_then more_then refused written
        (λ ok. close_stands second later old new container state others kept_second kept_later stood_then shut (done_of result came ok) number
        (more_then ∙ ap (λ (r : Result (Unit {0}) ChangeRefusal). with_given second.dn (change_kind second.dn (Some (CloseCommand second.dn container)) r) second.mine) ok)
        (subst (λ (r : Result (Unit {0}) ChangeRefusal). IsGiven second.dn (change_kind second.dn (Some (CloseCommand second.dn container)) r) second.seen others later.seen) ok given_then)))

    pub drop_comes : ((local : ℕ) → is_held (node_in old) (record { container = container; local = local }) ≡ false) → is_open ((node_in old).states container) ≡ false
        → (kind : Option EventKind) → kind ≡ change_kind second.dn None result
        → IsGiven second.dn kind second.seen others later.seen → later.mine ≡ with_given second.dn kind second.mine
        → OnOk result (HasChanged told clock image faults (entries.Drop container) old new) → IfErr result (IsRefusedFor told clock image faults old new)
        → new.shelf.written ≡ old.shelf.written
        → ComesOf told clock image faults Coherent opening bytes script loaded None other first later old new result
    drop_comes empty shut kind is given more came refused written =
        let given_then = subst (λ (k : Option EventKind). IsGiven second.dn k second.seen others later.seen) is given in
        let more_then = more ∙ ap (λ (k : Option EventKind). with_given second.dn k second.mine) is in
        comes_of Coherent opening bytes script loaded told clock image faults None first second later other others old new kept kept_second kept_later stood dn mine last
        begins began number last_then result given_then more_then refused written
        (λ ok. drop_stands second later old new container kept_second kept_later stood_then empty shut (done_of result came ok) number
        (more_then ∙ ap (λ (r : Result (Unit {0}) ChangeRefusal). with_given second.dn (change_kind second.dn None r) second.mine) ok)
        (subst (λ (r : Result (Unit {0}) ChangeRefusal). IsGiven second.dn (change_kind second.dn None r) second.seen others later.seen) ok given_then))
