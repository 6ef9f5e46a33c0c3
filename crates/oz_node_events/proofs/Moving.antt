-- A seat stands for its datanode in each story that goes on by others' events.
use Rattle.std.proofs.Common.{◌≡◌, Option, ℕ, List, [], ◌∷◌, ◌++◌, Some, refl, sym, ap, ◌∙◌, subst, append_assoc, append-nil}
use Rattle.std.proofs.lemmas.List.Elements.{filter_map-append}
use Rattle.std.specs.List.{flat_map}
use Rattle.oz_buffer.specs.Buffer.{AllFollow, Follows}
use Rattle.oz_core.specs.declared.event.Event.{Event}
use Rattle.oz_core.specs.declared.event.Node.{Node}
use Rattle.oz_core.specs.declared.opening.Opening.{Opening}
use Rattle.oz_core.specs.Contents.{OpeningBytes}
use Rattle.oz_core.specs.Nodes.{holds, is_closed, length_in, length_of, put_length}
use Rattle.oz_core.specs.Stories.{all_told, first_in}
use Rattle.oz_datanode.specs.Datanode.{State}
use Rattle.oz_fields.specs.declared.block.Block.{Block}
use Rattle.oz_kept.specs.reopened.Left.{greatest_of}
use Rattle.oz_script.specs.declared.lines.script.Script.{Script}
use Rattle.oz_turn.specs.Told.{BeginsWith}
use Rattle.oz_world.specs.Disk.{Images}
use Rattle.oz_node_events.specs.NodeSeat.{HasContents, IsKept, SeatView, StandsFor, events_of}
use Rattle.oz_node_events.specs.laws.Contents.{content_more, contents_move}
use Rattle.oz_node_events.proofs.Telling.{closed_more, others_go_on}
use Rattle.oz_node_events.proofs.Greatest.{greatest_more}
use Rattle.oz_node_events.proofs.Holding.{holds_more}

-- ---- parts of a story

pub follow_front : (Follow : List Event → Event → Type 0) (before a b : List Event) → AllFollow Follow before (a ++ b) → AllFollow Follow before a
unfolding AllFollow
follow_front Follow before [] b all = tt
follow_front Follow before (event ∷ a) b all = (all.0, follow_front Follow (before ++ event ∷ []) a b all.1)

pub follow_behind : (Follow : List Event → Event → Type 0) (before a b : List Event) → AllFollow Follow before (a ++ b) → AllFollow Follow (before ++ a) b
unfolding AllFollow
follow_behind Follow before [] b all = subst (λ (l : List Event). AllFollow Follow l b) (sym (append-nil before)) all
follow_behind Follow before (event ∷ a) b all =
    subst (λ (l : List Event). AllFollow Follow l b) (append_assoc before (event ∷ []) a) (follow_behind Follow (before ++ event ∷ []) a b all.1)

-- ---- lengths

pub first_longer : {X : Type 0} (l m : List X) (x : X) → first_in l ≡ Some x → first_in (l ++ m) ≡ Some x
first_longer [] m x is = absurd cc
first_longer (y ∷ l) m x is = is

pub length_parts : (opening : Opening) (block : Block) (seen more : List Event)
    → length_of opening (seen ++ more) block
    ≡ first_in ((flat_map (length_in block) opening.nodes ++ all_told (put_length block) seen) ++ all_told (put_length block) more)
length_parts opening block seen more =
    let had = flat_map (length_in block) opening.nodes in
    ap (λ (l : List ℕ). first_in (had ++ l)) (filter_map-append (λ (e : Event). put_length block e.kind) seen more)
    ∙ ap first_in (sym (append_assoc had (all_told (put_length block) seen) (all_told (put_length block) more)))

pub length_longer : (opening : Opening) (block : Block) (size : ℕ) (seen more : List Event) → length_of opening seen block ≡ Some size
    → length_of opening (seen ++ more) block ≡ Some size
length_longer opening block size seen more is =
    length_parts opening block seen more
    ∙ first_longer (flat_map (length_in block) opening.nodes ++ all_told (put_length block) seen) (all_told (put_length block) more) size is

-- ---- views

module _ {D : Type 0} (told : D → Option (List ℕ)) (clock : D → ℕ) (image : D → Images) (faults : D → ℕ) (Coherent : Type 0) (opening : Opening)
    (bytes : OpeningBytes) (script : Script) (loaded : Node → ℕ) (node : State D) where
  abbrev Stands : SeatView → Type 0
  Stands view = StandsFor told clock image faults Coherent opening bytes script loaded view node

  pub same_view : (a b : SeatView) → a.dn ≡ b.dn → a.seen ≡ b.seen → a.mine ≡ b.mine → StandsFor told clock image faults Coherent opening bytes script loaded a node → StandsFor told clock image faults Coherent opening bytes script loaded b node
  same_view a b dn seen mine stood =
      let one : Stands (record { dn = b.dn; seen = a.seen; mine = a.mine; room = a.room; last = a.last }) =
      subst (λ (n : ℕ). Stands (record { dn = n; seen = a.seen; mine = a.mine; room = a.room; last = a.last })) dn stood in
      let two : Stands (record { dn = b.dn; seen = b.seen; mine = a.mine; room = a.room; last = a.last }) =
      subst (λ (l : List Event). Stands (record { dn = b.dn; seen = l; mine = a.mine; room = a.room; last = a.last })) seen one in
      let three : Stands (record { dn = b.dn; seen = b.seen; mine = b.mine; room = a.room; last = a.last }) =
      subst (λ (l : List Event). Stands (record { dn = b.dn; seen = b.seen; mine = l; room = a.room; last = a.last })) mine two in
      record { number = three.number; halt = three.halt; line = three.line; held = three.held; whole = three.whole; closed = three.closed; greatest = three.greatest; tells = three.tells; no_fewer = three.no_fewer; rose = three.rose; journal = three.journal; contents = three.contents }

  pub stands_on : (view : SeatView) → IsKept Coherent opening bytes script view → StandsFor told clock image faults Coherent opening bytes script loaded view node
      → (story : List Event) (room : ℕ) → BeginsWith story view.seen → AllFollow (Follows Coherent opening bytes script) [] story → events_of view.dn story ≡ view.mine
      → StandsFor told clock image faults Coherent opening bytes script loaded (record { dn = view.dn; seen = story; mine = view.mine; room = room; last = view.last }) node
  stands_on view kept stood story room begins all own =
      let Follow = Follows Coherent opening bytes script in
      let more = begins.0 in
      let whole : AllFollow Follow [] (view.seen ++ more) = subst (λ (l : List Event). AllFollow Follow [] l) begins.1 all in
      let behind : AllFollow Follow view.seen more = follow_behind Follow [] view.seen more whole in
      let none = others_go_on view.dn view.seen more view.mine kept.own (ap (events_of view.dn) (sym begins.1) ∙ own) in
      record {
        number = stood.number;
        halt = stood.halt;
        line = stood.line;
        tells = stood.tells;
        no_fewer = stood.no_fewer;
        rose = stood.rose;
        held = λ coherent runs block.
            ap (λ (l : List Event). holds opening l view.dn block) begins.1
            ∙ (holds_more Coherent opening bytes script coherent (kept.numbered coherent) view.dn block more view.seen kept.follow behind none
            ∙ stood.held coherent runs block);
        whole = λ coherent runs block row is.
            ap (λ (l : List Event). length_of opening l block) begins.1
            ∙ length_longer opening block row.length view.seen more (stood.whole coherent runs block row is);
        closed = λ coherent runs container.
            ap (λ (l : List Event). is_closed opening l view.dn container) begins.1
            ∙ (closed_more Coherent opening bytes script view.dn coherent container view.seen more behind none
            ∙ stood.closed coherent runs container);
        greatest = λ coherent runs container.
            ap (λ (l : List Event). greatest_of opening l view.dn container) begins.1
            ∙ (greatest_more Coherent opening bytes script coherent (kept.numbered coherent) view.dn container more view.seen kept.follow behind none
            ∙ stood.greatest coherent runs container);
        journal = stood.journal;
        contents = λ coherent runs.
            subst (λ (l : List Event). HasContents told clock image faults opening bytes script l node) (sym begins.1)
            (contents_move told clock image faults opening bytes script view.seen (view.seen ++ more) node node refl (λ contents holds. holds)
            (content_more Coherent opening bytes script coherent more view.seen kept.follow behind) (stood.contents coherent runs));
      }
