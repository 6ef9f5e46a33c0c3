-- What a wipe, and a disk that fails, come to for the datanode and its seat.
use Rattle.std.proofs.Common.{◌≡◌, ℕ, ◌≤◌, Bool, true, false, ◌==◌, cond, List, [], ◌∷◌, ◌++◌, Option, None, Some, eq-eqb, refl, sym, ap, ◌∙◌}
use Rattle.std.specs.Prelude.{not}
use Rattle.oz_buffer.specs.Buffer.{AllFollow, Follows}
use Rattle.oz_buffer.specs.laws.Following.{told-push}
use Rattle.oz_core.specs.declared.event.Event.{Event}
use Rattle.oz_core.specs.declared.event.EventKind.TheVariants.{Halt, Wipe}
use Rattle.oz_core.specs.declared.event.Node.{Node}
use Rattle.oz_core.specs.declared.event.Node.TheVariants.{Datanode}
use Rattle.oz_core.specs.declared.opening.Opening.{Opening}
use Rattle.oz_core.specs.Contents.{OpeningBytes}
use Rattle.oz_core.specs.Fits.{EventFits}
use Rattle.oz_core.specs.Manager.{halt_count, halt_of}
use Rattle.oz_core.specs.Nodes.{closed_after, holds, is_closed, stopped_or_started, was_closed}
use Rattle.oz_core.specs.Stories.{newer}
use Rattle.oz_datanode.specs.Datanode.{State, count_of, is_halted}
use Rattle.oz_datanode.specs.Writing.{intact, is_open}
use Rattle.oz_datanode.specs.laws.GoingOn.{count_rose, rose_since}
use Rattle.oz_entries.specs.Node.{Node as Held, is_held}
use Rattle.oz_kept.specs.reopened.Left.{greatest_of}
use Rattle.oz_script.specs.declared.lines.script.Script.{Script}
use Rattle.oz_world.specs.Disk.{Images}
use Rattle.oz_node_events.specs.Commands.{HaltsSo, IsWipedSo, by_node}
use Rattle.oz_node_events.specs.NodeSeat.{IsAppended, IsKept, NumbersAreOld, SeatView, StandsFor, events_of}
use Rattle.oz_node_events.specs.laws.Disks.{both_tell, no_fewer_then}
use Rattle.oz_node_events.proofs.Commanding.{event_stands}
use Rattle.oz_node_events.proofs.Greatest.{greatest_push}
use Rattle.oz_node_events.proofs.Holding.{holds_push}
use Rattle.oz_node_events.proofs.Telling.{halt_own}

none_some : {X : Type 0} (x : X) → None ≡ Some x → ⊥
none_some x is = cc

true_false : true ≡ false → ⊥
true_false is = cc

module _ (Coherent : Type 0) (opening : Opening) (bytes : OpeningBytes) (script : Script) (loaded : Node → ℕ) {D : Type 0} (told : D → Option (List ℕ)) (clock : D → ℕ)
    (image : D → Images) (faults : D → ℕ) where
  abbrev Follow : List Event → Event → Type 0
  Follow = Follows Coherent opening bytes script

  abbrev Stands : SeatView → State D → Type 0
  Stands view node = StandsFor told clock image faults Coherent opening bytes script loaded view node

  -- ---- they may be told

  unhalted_now : (view : SeatView) (node : State D) → Stands view node → is_halted node ≡ false → (story : List Event) → AllFollow Follow [] story → events_of view.dn story ≡ view.mine
      → halt_of (Datanode view.dn) story ≡ None
  unhalted_now view node stood unhalted story all own =
      halt_own Coherent opening bytes script view.dn story all
      ∙ (ap (halt_of (Datanode view.dn)) own ∙ (stood.halt ∙ ap (λ (t : Bool). cond t (Some (count_of faults node)) None) unhalted))

  pub wipe_follows : (view : SeatView) (node : State D) → IsKept Coherent opening bytes script view → Stands view node → is_halted node ≡ false
      → (story : List Event) → AllFollow Follow [] story → events_of view.dn story ≡ view.mine
      → (Coherent → EventFits opening bytes script story (Wipe view.dn)) → Follow story (by_node view.dn (Wipe view.dn))
  wipe_follows view node kept stood unhalted story all own fits = record {
    of_seat = tt;
    enabled = λ coherent. record { of_datanode = record { there = kept.there; its = refl }; unhalted = unhalted_now view node stood unhalted story all own };
    fits = fits;
  }

  pub halt_follows : (view : SeatView) (node : State D) (count : ℕ) → IsKept Coherent opening bytes script view → Stands view node → is_halted node ≡ false → 1 ≤ count
      → (story : List Event) → AllFollow Follow [] story → events_of view.dn story ≡ view.mine → Follow story (by_node view.dn (Halt (Datanode view.dn) count))
  halt_follows view node count kept stood unhalted some story all own = record {
    of_seat = record { there = kept.there; its = refl };
    enabled = λ coherent. record { of_node = record { there = kept.there; its = refl }; unhalted = unhalted_now view node stood unhalted story all own; counted = some };
    fits = λ coherent. tt;
  }

  -- ---- behind them

  module _ (numbered : Coherent → NumbersAreOld opening) (dn room : ℕ) (last : List ℕ) (before mine : List Event) (all : AllFollow Follow [] before) (old new : State D)
      (stood : Stands (record { dn = dn; seen = before; mine = mine; room = room; last = last }) old) where
    wipe_step : Follow before (by_node dn (Wipe dn)) → IsWipedSo told clock image faults Coherent old new
        → Stands (record { dn = dn; seen = before ++ by_node dn (Wipe dn) ∷ []; mine = mine ++ by_node dn (Wipe dn) ∷ []; room = room; last = last }) new
    wipe_step follows wiped =
        let event = by_node dn (Wipe dn) in
        let its : (dn == dn) ≡ true = eq-eqb dn dn refl in
        record {
          number = wiped.id ∙ stood.number;
          halt = told-push (halt_count (Datanode dn)) None mine event
              ∙ (stood.halt
              ∙ (ap (λ (t : Bool). cond t (Some (count_of faults old)) None) wiped.ran
              ∙ sym (ap (λ (t : Bool). cond t (Some (count_of faults new)) None) wiped.unhalted)));
          line = told-push (stopped_or_started dn) true mine event ∙ (stood.line ∙ sym (ap not wiped.line));
          tells = λ coherent. both_tell told faults old new wiped.goes_on (stood.tells coherent);
          no_fewer = no_fewer_then told faults old new wiped.goes_on (loaded (Datanode dn)) stood.no_fewer;
          rose = λ halted. absurd (true_false (sym halted ∙ wiped.unhalted));
          held = λ coherent up block.
              holds_push Coherent opening bytes script coherent (numbered coherent) dn block before event all follows
              ∙ (ap (λ (t : Bool). newer (cond t (Some false) None) (holds opening before dn block)) its
              ∙ sym (ap (λ (n : Held). is_held n block) wiped.empty));
          whole = λ coherent up block row is. absurd (none_some row (sym (ap (λ (n : Held). n.rows block) wiped.empty) ∙ is));
          closed = λ coherent up container.
              told-push (closed_after dn container) (was_closed opening dn container) before event
              ∙ (ap (λ (t : Bool). newer (cond t (Some false) None) (is_closed opening before dn container)) its
              ∙ sym (ap (λ (n : Held). not (is_open (n.states container))) wiped.empty));
          greatest = λ coherent up container.
              greatest_push Coherent opening bytes script coherent (numbered coherent) dn container before event all follows
              ∙ (ap (λ (t : Bool). cond t 0 (greatest_of opening before dn container)) its
              ∙ sym (ap (λ (n : Held). n.greatest container) wiped.empty));
          journal = λ coherent up. wiped.journal coherent;
          contents = λ coherent up. record {
            contents = λ block. intact [];
            holds = wiped.pairs (λ block. intact []);
            intact = λ block is. refl;
            its = λ block is. absurd (true_false (sym is ∙ ap (λ (n : Held). is_held n block) wiped.empty));
          };
        }

    halt_step : (count : ℕ) → Follow before (by_node dn (Halt (Datanode dn) count)) → HaltsSo told faults old new count
        → Stands (record { dn = dn; seen = before ++ by_node dn (Halt (Datanode dn) count) ∷ []; mine = mine ++ by_node dn (Halt (Datanode dn) count) ∷ []; room = room; last = last }) new
    halt_step count follows halts =
        let event = by_node dn (Halt (Datanode dn) count) in
        record {
          number = halts.id ∙ stood.number;
          halt = told-push (halt_count (Datanode dn)) None mine event
              ∙ (ap (λ (t : Bool). newer (cond t (Some (Some count)) None) (halt_of (Datanode dn) mine)) (eq-eqb dn dn refl)
              ∙ (ap (λ (n : ℕ). Some n) halts.counted ∙ sym (ap (λ (t : Bool). cond t (Some (count_of faults new)) None) halts.halted)));
          line = told-push (stopped_or_started dn) true mine event ∙ (stood.line ∙ sym (ap not halts.line));
          tells = λ coherent. both_tell told faults old new halts.goes_on (stood.tells coherent);
          no_fewer = no_fewer_then told faults old new halts.goes_on (loaded (Datanode dn)) stood.no_fewer;
          rose = λ halted. rose_since (loaded (Datanode dn)) (count_of faults old) (count_of faults new) stood.no_fewer (count_rose told faults old new halts.goes_on halts.cause);
          held = λ coherent up. absurd (true_false (sym halts.halted ∙ up));
          whole = λ coherent up. absurd (true_false (sym halts.halted ∙ up));
          closed = λ coherent up. absurd (true_false (sym halts.halted ∙ up));
          greatest = λ coherent up. absurd (true_false (sym halts.halted ∙ up));
          journal = λ coherent up. absurd (true_false (sym halts.halted ∙ up));
          contents = λ coherent up. absurd (true_false (sym halts.halted ∙ up));
        }

  pub wipe_stands : (view later : SeatView) (old new : State D) (other : List Event) → IsKept Coherent opening bytes script view → IsKept Coherent opening bytes script later
      → Stands view old → IsWipedSo told clock image faults Coherent old new → later.dn ≡ view.dn → later.mine ≡ view.mine ++ by_node view.dn (Wipe view.dn) ∷ []
      → IsAppended (by_node view.dn (Wipe view.dn)) view.seen other later.seen → Stands later new
  wipe_stands view later old new other kept kept_later stood wiped number mine told_so =
      event_stands Coherent opening bytes script loaded told clock image faults (Wipe view.dn) view later old new other kept kept_later stood number mine told_so
      (λ before others all follows here. wipe_step kept.numbered view.dn view.room view.last before view.mine all old new here follows wiped)

  pub halt_stands : (view later : SeatView) (old new : State D) (count : ℕ) (other : List Event) → IsKept Coherent opening bytes script view → IsKept Coherent opening bytes script later
      → Stands view old → HaltsSo told faults old new count → later.dn ≡ view.dn → later.mine ≡ view.mine ++ by_node view.dn (Halt (Datanode view.dn) count) ∷ []
      → IsAppended (by_node view.dn (Halt (Datanode view.dn) count)) view.seen other later.seen → Stands later new
  halt_stands view later old new count other kept kept_later stood halts number mine told_so =
      event_stands Coherent opening bytes script loaded told clock image faults (Halt (Datanode view.dn) count) view later old new other kept kept_later stood number mine told_so
      (λ before others all follows here. halt_step kept.numbered view.dn view.room view.last before view.mine all old new here count follows halts)
