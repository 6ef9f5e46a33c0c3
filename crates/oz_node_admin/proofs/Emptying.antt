-- Whether a datanode runs, and what the seats have told of a wipe.
use Rattle.std.proofs.Common.{◌≡◌, ◌↔◌, ℕ, Bool, true, false, ◌&&◌, cond, List, [], ◌∷◌, ◌++◌, Option, None, Some, Result, Ok, Err, inr, is_none, IsTrue, refl, sym, ap, ◌∙◌, subst, append_assoc}
use Rattle.std.specs.Prelude.{not, slice_set}
use Rattle.oz_buffer.specs.Buffer.{AllFollow, Follows}
use Rattle.oz_core.specs.declared.event.Event.{Event}
use Rattle.oz_core.specs.declared.event.EventKind.{EventKind}
use Rattle.oz_core.specs.declared.event.EventKind.TheVariants.{Halt, Wipe}
use Rattle.oz_core.specs.declared.event.Node.{Node}
use Rattle.oz_core.specs.declared.event.Node.TheVariants.{Datanode}
use Rattle.oz_core.specs.declared.opening.Opening.{Opening}
use Rattle.oz_core.specs.Contents.{OpeningBytes}
use Rattle.oz_core.specs.Manager.{halt_of}
use Rattle.oz_core.specs.Nodes.{is_running, stopped_or_started}
use Rattle.oz_core.specs.Scm.{is_up}
use Rattle.oz_core.specs.Seats.{datanode_seat, scm_seat}
use Rattle.oz_core.specs.Stories.{last_told}
use Rattle.oz_datanode.specs.Datanode.{State, Runs, count_of, is_halted}
use Rattle.oz_script.specs.declared.lines.script.Line.{Line}
use Rattle.oz_script.specs.declared.lines.script.Script.{Script}
use Rattle.oz_node_events.specs.Beside.{ShareAPlace}
use Rattle.oz_node_events.specs.Commands.{by_node}
use Rattle.oz_node_events.specs.NodeSeat.{IsAppended, IsKept, SeatView, StandsFor, events_of}
use Rattle.oz_scm_events.specs.Kept.{ScmView}
use Rattle.oz_scm_events.specs.Tracked.{IsTracked}
use Rattle.oz_turn.specs.Told.{own_entries}
use Rattle.oz_world.specs.Disk.{Images}
use Rattle.oz_node_admin.specs.Wipes.{Empties, HasTold, HaveTold, WipeComesTo, answer_of, last_wiped, runs_now, wipe_event}
use Rattle.oz_node_admin.proofs.Told.{scm_as, tracked_up}

true_false : true ≡ false → ⊥
true_false is = cc

-- ---- whether it runs

none_of : (halted line : Bool) (count : ℕ) → (is_none (cond halted (Some count) None) && line) ≡ (not halted && line)
none_of true line count = refl
none_of false line count = refl

some_none : (n : ℕ) → Some n ≡ None → ⊥
some_none n is = cc

running_is : (halted stopped result : Bool) (count : ℕ)
    → IsTrue result ↔ (cond halted (Some count) (cond stopped (Some 0) None) ≡ None) → result ≡ (not halted && not stopped)
running_is true stopped true count is = absurd (some_none count (is.0 refl))
running_is true stopped false count is = refl
running_is false true true count is = absurd (some_none 0 (is.0 refl))
running_is false true false count is = refl
running_is false false true count is = refl
running_is false false false count is = absurd (true_false (sym (is.1 refl)))

pub runs_so : {D : Type 0} (faults : D → ℕ) (node : State D) (result : Bool) → IsTrue result ↔ Runs faults node → result ≡ runs_now node
runs_so faults node result is = running_is (is_halted node) node.stopped result (count_of faults node) is

runs_unhalted : (halted stopped was : Bool) → halted ≡ false → stopped ≡ was → (not halted && not stopped) ≡ not was
runs_unhalted true stopped was not_halted line = absurd (true_false not_halted)
runs_unhalted false stopped was not_halted line = ap not line

runs_halted : (halted stopped : Bool) → halted ≡ true → (not halted && not stopped) ≡ false
runs_halted true stopped is = refl
runs_halted false stopped is = absurd (true_false (sym is))

pub still_runs : {D : Type 0} (old new : State D) → is_halted new ≡ false → new.stopped ≡ old.stopped → runs_now new ≡ not old.stopped
still_runs old new unhalted line = runs_unhalted (is_halted new) new.stopped old.stopped unhalted line

pub still_halted : {D : Type 0} (node : State D) → is_halted node ≡ true → runs_now node ≡ false
still_halted node halted = runs_halted (is_halted node) node.stopped halted

module _ (Coherent : Type 0) (opening : Opening) (bytes : OpeningBytes) (script : Script) (loaded : Node → ℕ) where
  abbrev All : List Event → Type 0
  All = AllFollow (Follows Coherent opening bytes script) []

  pub runs_told : {D : Type 0} (told : D → Option (List ℕ)) (clock : D → ℕ) (image : D → Images) (faults : D → ℕ) (view : SeatView) (node : State D)
      → StandsFor told clock image faults Coherent opening bytes script loaded view node → is_running view.dn view.mine ≡ runs_now node
  runs_told told clock image faults view node stood =
      ap (λ (o : Option ℕ). is_none o && last_told (stopped_or_started view.dn) true view.mine) stood.halt
      ∙ (none_of (is_halted node) (last_told (stopped_or_started view.dn) true view.mine) (count_of faults node)
      ∙ ap (λ (line : Bool). not (is_halted node) && line) stood.line)

  -- the Halt of a datanode that halted stands in what its seat has seen
  pub halt_told : {D : Type 0} (told : D → Option (List ℕ)) (clock : D → ℕ) (image : D → Images) (faults : D → ℕ) (view : SeatView) (node : State D)
      → ((story : List Event) (dn : ℕ) → All story → halt_of (Datanode dn) story ≡ halt_of (Datanode dn) (events_of dn story))
      → IsKept Coherent opening bytes script view → StandsFor told clock image faults Coherent opening bytes script loaded view node
      → is_halted node ≡ true → halt_of (Datanode view.dn) view.seen ≡ Some (count_of faults node)
  halt_told told clock image faults view node alone kept stood halted =
      alone view.seen view.dn kept.follow
      ∙ (ap (halt_of (Datanode view.dn)) kept.own
      ∙ (stood.halt ∙ ap (λ (t : Bool). cond t (Some (count_of faults node)) None) halted))

-- ---- what the seats have told

regroup : (a b c d e : List Event) → (((a ++ b) ++ c) ++ d) ++ e ≡ a ++ (b ++ (c ++ (d ++ e)))
regroup a b c d e = simp append_assoc

joined : (seen first before noted then place last : List Event) (event : Event) → before ≡ seen ++ first → noted ≡ (before ++ event ∷ []) ++ then
    → place ≡ noted ++ last → place ≡ seen ++ (first ++ event ∷ (then ++ last))
joined seen first before noted then place last event one two three =
    three ∙ (ap (λ (l : List Event). l ++ last) (two ∙ ap (λ (l : List Event). (l ++ event ∷ []) ++ then) one)
    ∙ regroup seen first (event ∷ []) then last)

module _ (Coherent : Type 0) (opening : Opening) (bytes : OpeningBytes) (script : Script) where
  abbrev Follow : List Event → Type 0
  Follow = AllFollow (Follows Coherent opening bytes script) []

  -- the place at which both have told, behind the event
  pub has_told : (dn : ℕ) (runs changed : Bool) (kind : EventKind) (kept_seen seen noted mine of_scm_before of_scm story : List Event)
      → IsAppended (by_node dn kind) kept_seen seen noted → ShareAPlace Follow dn noted mine of_scm story
      → ((place : List Event) → Coherent → Follow place → is_running dn place ≡ is_running dn (own_entries (λ (event : Event). event.seat) (datanode_seat dn) place))
      → ((place : List Event) → Coherent → Follow place → is_up dn place ≡ is_up dn (own_entries (λ (event : Event). event.seat) scm_seat place))
      → is_running dn mine ≡ runs → IsTracked {E = Unit {0}} dn runs of_scm_before of_scm (Ok changed) → HasTold Coherent dn kind seen story
  has_told dn runs changed kind kept_seen seen noted mine of_scm_before of_scm story appended shared running_own up_own running told =
      let event = by_node dn kind in
      let first = appended.begins_other.0 in
      let then = appended.goes_on.0 ++ shared.since.0 in
      let is : shared.place ≡ seen ++ (first ++ event ∷ then) =
      joined seen first appended.before noted appended.goes_on.0 shared.place shared.since.0 event appended.begins_other.1 appended.goes_on.1 shared.since.1 in
      record {
        front = first;
        behind = then;
        within = (shared.within.0, shared.within.1 ∙ ap (λ (l : List Event). l ++ shared.within.0) is);
        agrees = λ coherent. subst (λ (l : List Event). is_up dn l ≡ is_running dn l) is
            (up_own shared.place coherent shared.follow ∙ (ap (is_up dn) shared.of_the_scm ∙ (tracked_up dn runs changed of_scm_before of_scm told
            ∙ sym (running_own shared.place coherent shared.follow ∙ (ap (is_running dn) shared.its ∙ running)))));
      }

-- they told it of what was before room was made
pub told_before : {S : Type 0} (kind : ℕ → EventKind) (runs up : Bool) (old before after : SeatView) (scm_old scm_before scm_after : ScmView S)
    → before.dn ≡ old.dn → before.mine ≡ old.mine → scm_before.scm ≡ scm_old.scm → scm_before.mine ≡ scm_old.mine → runs ≡ up
    → HaveTold before after scm_before scm_after (kind before.dn) runs → HaveTold old after scm_old scm_after (kind old.dn) up
told_before {S} kind runs up old before after scm_old scm_before scm_after number mine scm of_the_scm same told = record {
  number = told.number ∙ number;
  its = told.its
      ∙ (ap (λ (n : ℕ). before.mine ++ by_node n (kind n) ∷ []) number ∙ ap (λ (l : List Event). l ++ by_node old.dn (kind old.dn) ∷ []) mine);
  changed = told.changed;
  of_the_scm = subst (λ (l : List Event). IsTracked {E = Unit {0}} old.dn up l scm_after.mine (Ok told.changed)) of_the_scm
      (subst (λ (n : ℕ). IsTracked {E = Unit {0}} n up scm_before.mine scm_after.mine (Ok told.changed)) number
      (subst (λ (r : Bool). IsTracked {E = Unit {0}} before.dn r scm_before.mine scm_after.mine (Ok told.changed)) same told.of_the_scm));
  scm = subst (λ (r : Bool). scm_after.scm ≡ record scm_old.scm { up = slice_set scm_old.scm.up old.dn r }) same
      (scm_as scm_after.scm scm_before.scm scm_old.scm before.dn old.dn runs told.scm scm number);
}

-- what a wipe comes to, whether it was done or a disk failed
pub wiped_so : {D S : Type 0} (told : D → Option (List ℕ)) (clock : D → ℕ) (image : D → Images) (faults : D → ℕ) (Coherent : Type 0) (script : Script) (line : Line) (old new : State D)
    (before after : SeatView) (scm_old scm_before scm_after : ScmView S) (seen_before seen_after : List Event)
    → is_halted old ≡ false → scm_before.scm ≡ scm_old.scm → scm_before.mine ≡ scm_old.mine
    → (is_halted new ≡ true → halt_of (Datanode before.dn) seen_after ≡ Some (count_of faults new))
    → (done : Result (Unit {0}) ℕ) → Empties told clock image faults Coherent old new done → HaveTold before after scm_before scm_after (wipe_event before.dn done) (runs_now new)
    → after.last ≡ last_wiped line before.last done → HasTold Coherent before.dn (wipe_event before.dn done) seen_before seen_after
    → WipeComesTo (record { node = old; kept = before }) (record { node = new; kept = after }) scm_old scm_after told clock image faults Coherent script line seen_before seen_after (answer_of done)
wiped_so told clock image faults Coherent script line old new before after scm_old scm_before scm_after seen_before seen_after unhalted scm of_the_scm halted (Ok it) empties seats last has = record {
  node = empties;
  seats = told_before (λ n. Wipe n) (runs_now new) (not old.stopped) before before after scm_old scm_before scm_after refl refl scm of_the_scm
      (still_runs old new empties.unhalted empties.line) seats;
  last = last;
  has_told = has;
}
wiped_so told clock image faults Coherent script line old new before after scm_old scm_before scm_after seen_before seen_after unhalted scm of_the_scm halted (Err count) empties seats last has =
    inr (record {
      unhalted = unhalted;
      node = empties;
      seats = told_before (λ n. Halt (Datanode n) count) (runs_now new) false before before after scm_old scm_before scm_after refl refl scm of_the_scm
          (still_halted new empties.halted) seats;
      last = last;
      has_told = has;
      seen = halted empties.halted ∙ ap (λ (n : ℕ). Some n) (sym empties.counted);
    })
