-- What a line's Stop or Start comes to for the datanode and its seat.
use Rattle.std.proofs.Common.{◌≡◌, ℕ, Bool, true, false, ◌&&◌, cond, List, [], ◌∷◌, ◌++◌, Option, None, Some, eq-eqb, refl, sym, ap, ◌∙◌, subst}
use Rattle.std.specs.Prelude.{not, is_none}
use Rattle.oz_buffer.specs.Buffer.{AllFollow, Follows}
use Rattle.oz_buffer.specs.laws.Following.{told-push}
use Rattle.oz_core.specs.declared.event.Event.{Event}
use Rattle.oz_core.specs.declared.event.EventKind.{EventKind}
use Rattle.oz_core.specs.declared.event.Node.{Node}
use Rattle.oz_core.specs.declared.event.Node.TheVariants.{Datanode}
use Rattle.oz_core.specs.declared.opening.Opening.{Opening}
use Rattle.oz_core.specs.Contents.{OpeningBytes}
use Rattle.oz_core.specs.Fits.{EventFits}
use Rattle.oz_core.specs.Manager.{halt_count, halt_of}
use Rattle.oz_core.specs.Nodes.{closed_after, is_running, stopped_or_started, was_closed}
use Rattle.oz_core.specs.Stories.{has_event, last_told, newer}
use Rattle.oz_datanode.specs.Datanode.{State, count_of, is_halted, node_in}
use Rattle.oz_datanode.specs.Pairs.{Content, NodeHolds}
use Rattle.oz_fields.specs.declared.block.Block.{Block}
use Rattle.oz_script.specs.declared.lines.script.Script.{Script}
use Rattle.oz_node_events.specs.Commands.{by_node, run_event}
use Rattle.oz_turn.specs.Told.{BeginsWith}
use Rattle.oz_world.specs.Disk.{Images}
use Rattle.oz_node_events.specs.NodeSeat.{HasContents, IsAppended, IsKept, NumbersAreOld, SeatView, StandsFor, events_of, is_bad}
use Rattle.oz_node_events.specs.laws.Contents.{content_push, contents_move}
use Rattle.oz_node_events.proofs.Greatest.{greatest_push}
use Rattle.oz_node_events.proofs.Holding.{holds_push}
use Rattle.oz_node_events.proofs.Moving.{follow_behind, follow_front, length_longer, same_view, stands_on}
use Rattle.oz_node_events.proofs.Noted.{own_before, own_behind}
use Rattle.oz_node_events.proofs.Telling.{halt_own, line_own}

follow_one : (Follow : List Event → Event → Type 0) (before : List Event) (event : Event) (rest : List Event) → AllFollow Follow before (event ∷ rest) → Follow before event
unfolding AllFollow
follow_one Follow before event rest all = all.0

module _ (Coherent : Type 0) (opening : Opening) (bytes : OpeningBytes) (script : Script) (loaded : Node → ℕ) {D : Type 0} (told : D → Option (List ℕ)) (clock : D → ℕ)
    (image : D → Images) (faults : D → ℕ) where
  abbrev Follow : List Event → Event → Type 0
  Follow = Follows Coherent opening bytes script

  abbrev Stands : SeatView → State D → Type 0
  Stands view node = StandsFor told clock image faults Coherent opening bytes script loaded view node

  -- ---- whether it runs

  unhalted_is : (h : Bool) (count : ℕ) (halt : Option ℕ) → halt ≡ cond h (Some count) None → h ≡ false → halt ≡ None
  unhalted_is h count halt is not = is ∙ ap (λ t. cond t (Some count) None) not

  pub runs_as : (view : SeatView) (node : State D) → Stands view node → is_halted node ≡ false → is_running view.dn view.mine ≡ not node.stopped
  runs_as view node stood unhalted =
      ap (λ (o : Option ℕ). is_none o && last_told (stopped_or_started view.dn) true view.mine)
      (unhalted_is (is_halted node) (count_of faults node) (halt_of (Datanode view.dn) view.mine) stood.halt unhalted)
      ∙ stood.line

  -- ---- it may be told

  pub run_follows : (view : SeatView) (node : State D) (runs : Bool) → IsKept Coherent opening bytes script view → Stands view node → is_halted node ≡ false → node.stopped ≡ runs
      → (story : List Event) → AllFollow Follow [] story → events_of view.dn story ≡ view.mine
      → (Coherent → EventFits opening bytes script story (run_event view.dn runs)) → Follow story (by_node view.dn (run_event view.dn runs))
  run_follows view node runs kept stood unhalted was story all own fits = by runs was fits
    where
      dn : ℕ
      dn = view.dn

      halt_now : halt_of (Datanode dn) story ≡ None
      halt_now =
          halt_own Coherent opening bytes script dn story all
          ∙ (ap (halt_of (Datanode dn)) own ∙ unhalted_is (is_halted node) (count_of faults node) (halt_of (Datanode dn) view.mine) stood.halt unhalted)

      runs_now : Coherent → is_running dn story ≡ not node.stopped
      runs_now coherent =
          ap (λ (o : Option ℕ). is_none o && last_told (stopped_or_started dn) true story) halt_now
          ∙ (line_own Coherent opening bytes script dn coherent story all ∙ (ap (last_told (stopped_or_started dn) true) own ∙ stood.line))

      by : (runs : Bool) → node.stopped ≡ runs → (Coherent → EventFits opening bytes script story (run_event view.dn runs)) → Follow story (by_node view.dn (run_event view.dn runs))
      by true was fits = record {
        of_seat = tt;
        enabled = λ coherent. record { of_datanode = record { there = kept.there; its = refl }; unhalted = halt_now; stands_still = runs_now coherent ∙ ap not was };
        fits = fits;
      }
      by false was fits = record {
        of_seat = tt;
        enabled = λ coherent. record { of_datanode = record { there = kept.there; its = refl }; unhalted = halt_now; runs = runs_now coherent ∙ ap not was };
        fits = fits;
      }

  -- ---- behind an event of the datanode's seat

  pub event_stands : (kind : EventKind) (view later : SeatView) (old new : State D) (other : List Event) → IsKept Coherent opening bytes script view → IsKept Coherent opening bytes script later
      → Stands view old → later.dn ≡ view.dn → later.mine ≡ view.mine ++ by_node view.dn kind ∷ [] → IsAppended (by_node view.dn kind) view.seen other later.seen
      → ((before : List Event) → BeginsWith before other → AllFollow Follow [] before → Follow before (by_node view.dn kind) → Stands (record { dn = view.dn; seen = before; mine = view.mine; room = view.room; last = view.last }) old
      → Stands (record { dn = view.dn; seen = before ++ by_node view.dn kind ∷ []; mine = view.mine ++ by_node view.dn kind ∷ []; room = view.room; last = view.last }) new)
      → Stands later new
  event_stands kind view later old new other kept kept_later stood number mine told_so step =
      let event = by_node view.dn kind in
      let before = told_so.before in
      let more = told_so.goes_on.0 in
      let given : events_of view.dn later.seen ≡ view.mine ++ event ∷ [] = ap (λ (n : ℕ). events_of n later.seen) (sym number) ∙ (kept_later.own ∙ mine) in
      let all : AllFollow Follow [] ((before ++ event ∷ []) ++ more) = subst (λ (l : List Event). AllFollow Follow [] l) told_so.goes_on.1 kept_later.follow in
      let all_behind : AllFollow Follow [] (before ++ event ∷ []) = follow_front Follow [] (before ++ event ∷ []) more all in
      let all_before : AllFollow Follow [] before = follow_front Follow [] before (event ∷ []) all_behind in
      let follows : Follow before event = follow_one Follow before event [] (follow_behind Follow [] before (event ∷ []) all_behind) in
      let own = own_before view.dn event refl view.seen before more view.mine later.seen kept.own told_so.begins told_so.goes_on.1 given in
      let own_then = own_behind view.dn event refl view.seen before more view.mine later.seen kept.own told_so.begins told_so.goes_on.1 given in
      let behind : SeatView = record { dn = view.dn; seen = before ++ event ∷ []; mine = view.mine ++ event ∷ []; room = view.room; last = view.last } in
      let stood_here = stands_on told clock image faults Coherent opening bytes script loaded old view kept stood before view.room told_so.begins all_before own in
      let stood_behind : Stands behind new = step before told_so.begins_other all_before follows stood_here in
      let kept_behind : IsKept Coherent opening bytes script behind = record { few = kept.few; there = kept.there; numbered = kept.numbered; own = own_then; follow = all_behind; no_bad = λ coherent. ap (has_event is_bad) (sym mine) ∙ kept_later.no_bad coherent } in
      same_view told clock image faults Coherent opening bytes script loaded new (record { dn = view.dn; seen = later.seen; mine = view.mine ++ event ∷ []; room = view.room; last = view.last }) later (sym number) refl (sym mine)
      (stands_on told clock image faults Coherent opening bytes script loaded new behind kept_behind stood_behind later.seen view.room told_so.goes_on kept_later.follow given)

  -- what is held stays, and the story is one event longer
  pub contents_behind : Coherent → (before : List Event) (event : Event) → AllFollow (Follows Coherent opening bytes script) [] before → Follows Coherent opening bytes script before event
      → (old new : State D) → node_in new ≡ node_in old
      → ((contents : Block → Content) → NodeHolds told clock image faults contents old → NodeHolds told clock image faults contents new)
      → HasContents told clock image faults opening bytes script before old → HasContents told clock image faults opening bytes script (before ++ event ∷ []) new
  contents_behind coherent before event all follows old new same holds had =
      contents_move told clock image faults opening bytes script before (before ++ event ∷ []) old new same holds
      (content_push Coherent opening bytes script coherent before event all follows) had

  -- ---- behind a Stop or a Start

  module _ (numbered : Coherent → NumbersAreOld opening) (dn room : ℕ) (last : List ℕ) (before mine : List Event) (all : AllFollow Follow [] before) where
    run_step : (runs : Bool) → Follow before (by_node dn (run_event dn runs)) → (old : State D) → Stands (record { dn = dn; seen = before; mine = mine; room = room; last = last }) old
        → Stands (record { dn = dn; seen = before ++ by_node dn (run_event dn runs) ∷ []; mine = mine ++ by_node dn (run_event dn runs) ∷ []; room = room; last = last }) (record old { stopped = not runs })
    run_step true follows old stood =
        let event = by_node dn (run_event dn true) in
        record {
          number = stood.number;
          halt = told-push (halt_count (Datanode dn)) None mine event ∙ stood.halt;
          line = told-push (stopped_or_started dn) true mine event
              ∙ ap (λ (t : Bool). newer (cond t (Some true) None) (last_told (stopped_or_started dn) true mine)) (eq-eqb dn dn refl);
          tells = stood.tells;
          no_fewer = stood.no_fewer;
          rose = stood.rose;
          held = λ coherent up block. holds_push Coherent opening bytes script coherent (numbered coherent) dn block before event all follows ∙ stood.held coherent up block;
          whole = λ coherent up block row is. length_longer opening block row.length before (event ∷ []) (stood.whole coherent up block row is);
          closed = λ coherent up container. told-push (closed_after dn container) (was_closed opening dn container) before event ∙ stood.closed coherent up container;
          greatest = λ coherent up container. greatest_push Coherent opening bytes script coherent (numbered coherent) dn container before event all follows ∙ stood.greatest coherent up container;
          journal = stood.journal;
          contents = λ coherent up. contents_behind coherent before event all follows old (record old { stopped = false }) refl (λ contents holds. holds) (stood.contents coherent up);
        }
    run_step false follows old stood =
        let event = by_node dn (run_event dn false) in
        record {
          number = stood.number;
          halt = told-push (halt_count (Datanode dn)) None mine event ∙ stood.halt;
          line = told-push (stopped_or_started dn) true mine event
              ∙ ap (λ (t : Bool). newer (cond t (Some false) None) (last_told (stopped_or_started dn) true mine)) (eq-eqb dn dn refl);
          tells = stood.tells;
          no_fewer = stood.no_fewer;
          rose = stood.rose;
          held = λ coherent up block. holds_push Coherent opening bytes script coherent (numbered coherent) dn block before event all follows ∙ stood.held coherent up block;
          whole = λ coherent up block row is. length_longer opening block row.length before (event ∷ []) (stood.whole coherent up block row is);
          closed = λ coherent up container. told-push (closed_after dn container) (was_closed opening dn container) before event ∙ stood.closed coherent up container;
          greatest = λ coherent up container. greatest_push Coherent opening bytes script coherent (numbered coherent) dn container before event all follows ∙ stood.greatest coherent up container;
          journal = stood.journal;
          contents = λ coherent up. contents_behind coherent before event all follows old (record old { stopped = true }) refl (λ contents holds. holds) (stood.contents coherent up);
        }

  pub run_stands : (view later : SeatView) (node : State D) (runs : Bool) (other : List Event) → IsKept Coherent opening bytes script view → IsKept Coherent opening bytes script later
      → Stands view node → later.dn ≡ view.dn → later.mine ≡ view.mine ++ by_node view.dn (run_event view.dn runs) ∷ []
      → IsAppended (by_node view.dn (run_event view.dn runs)) view.seen other later.seen → Stands later (record node { stopped = not runs })
  run_stands view later node runs other kept kept_later stood number mine told_so =
      event_stands (run_event view.dn runs) view later node (record node { stopped = not runs }) other kept kept_later stood number mine told_so
      (λ before others all follows here. run_step kept.numbered view.dn view.room view.last before view.mine all runs follows node here)
