-- A datanode that refused a block for an ask, or told that it is bad, isn't intact for it.
use Rattle.std.proofs.Common.{◌≡◌, ℕ, Bool, true, false, ◌&&◌, ◌==◌, List, [], ◌∷◌, ◌++◌, sym, ap, ◌∙◌, subst, eq-eqb, refl}
use Rattle.std.proofs.lemmas.Bool.{and_from, and_right, or_left, or_right}
use Rattle.std.proofs.lemmas.List.Folds.{list_any-append}
use Rattle.std.specs.Prelude.{map, not}
use Rattle.oz_core.specs.declared.event.Event.{Event}
use Rattle.oz_core.specs.declared.event.EventKind.{EventKind}
use Rattle.oz_core.specs.declared.event.PutRefusal.TheVariants as refusals
use Rattle.oz_core.specs.declared.opening.Opening.{Opening}
use Rattle.oz_core.specs.Asks.{is_id}
use Rattle.oz_core.specs.Nodes.{doubts, holds, is_block, is_intact}
use Rattle.oz_core.specs.Stories.{has_event}
use Rattle.oz_fields.specs.declared.block.Block.{Block}
use Rattle.oz_node_events.specs.Noting.{StandIn, event_of}
use Rattle.oz_replicas.specs.declared.note.Note.{Note}
use Rattle.oz_replicas.specs.declared.note.Note.TheVariants as notes
use Rattle.oz_requests.specs.declared.request.AskId.{AskId}
use Rattle.oz_turn.specs.Told.{BeginsWith}
use Rattle.oz_line_blocks.specs.declared.reading.lack.Doubted.{Doubted}
use Rattle.oz_line_blocks.specs.reading.Lacks.{AreDoubted}
use Rattle.oz_line_blocks.specs.reading.Read.{TellsFor}

-- ---- events that stand in a story

stands_somewhere : (is : EventKind → Bool) (front behind : List Event) (event : Event) → is event.kind ≡ true → has_event is (front ++ event ∷ behind) ≡ true
stands_somewhere is front behind event so =
    list_any-append (λ (e : Event). is e.kind) front (event ∷ behind)
    ∙ or_right (has_event is front) (has_event is (event ∷ behind)) (or_left (is event.kind) (has_event is behind) so)

pub has_behind : (is : EventKind → Bool) (front behind : List Event) → has_event is behind ≡ true → has_event is (front ++ behind) ≡ true
has_behind is front behind so =
    list_any-append (λ (e : Event). is e.kind) front behind ∙ or_right (has_event is front) (has_event is behind) so

pub has_later : (is : EventKind → Bool) (later story : List Event) → BeginsWith later story → has_event is story ≡ true → has_event is later ≡ true
has_later is later story begins so =
    ap (has_event is) begins.1
    ∙ (list_any-append (λ (e : Event). is e.kind) story begins.0 ∙ or_left (has_event is story) (has_event is begins.0) so)

-- the first of some notes, and the second, where it is of this kind
first_stands : (is : EventKind → Bool) (id : AskId) (note : Note) (more : List Note) (story : List Event) → StandIn (map (event_of id 0) (note ∷ more)) story
    → is (event_of id 0 note).kind ≡ true → has_event is story ≡ true
first_stands is id note more story stand so =
    subst (λ (l : List Event). has_event is l ≡ true) (sym stand.1.1.0) (stands_somewhere is stand.0 stand.1.0 (event_of id 0 note) so)

pub first_told : (is : EventKind → Bool) (id : AskId) (note : Note) (more said : List Note) (seen later : List Event) → said ≡ note ∷ more → TellsFor id seen said later
    → is (event_of id 0 note).kind ≡ true → has_event is later ≡ true
first_told is id note more said seen later same told so =
    subst (λ (l : List Event). has_event is l ≡ true) (sym told.goes_on)
    (has_behind is seen told.since
    (first_stands is id note more told.since (subst (λ (l : List Note). StandIn (map (event_of id 0) l) told.since) same told.told) so))

pub second_told : (is : EventKind → Bool) (id : AskId) (one note : Note) (said : List Note) (seen later : List Event) → said ≡ one ∷ note ∷ [] → TellsFor id seen said later
    → is (event_of id 0 note).kind ≡ true → has_event is later ≡ true
second_told is id one note said seen later same told so =
    let stand = subst (λ (l : List Note). StandIn (map (event_of id 0) l) told.since) same told.told in
    subst (λ (l : List Event). has_event is l ≡ true) (sym told.goes_on)
    (has_behind is seen told.since
    (subst (λ (l : List Event). has_event is l ≡ true) (sym stand.1.1.0)
    (has_behind is stand.0 (event_of id 0 one ∷ stand.1.0)
    (or_right (is (event_of id 0 one).kind) (has_event is stand.1.0) (first_stands is id note [] stand.1.0 stand.1.1.1 so)))))

-- ---- what doubts a datanode

same_block : (block : Block) → is_block block block ≡ true
same_block block =
    and_from (block.container == block.container) (block.local == block.local) (eq-eqb block.container block.container refl) (eq-eqb block.local block.local refl)

same_id : (id : AskId) → is_id id id ≡ true
same_id id =
    and_from (id.client == id.client && id.line == id.line) (id.step == id.step)
    (and_from (id.client == id.client) (id.line == id.line) (eq-eqb id.client id.client refl) (eq-eqb id.line id.line refl)) (eq-eqb id.step id.step refl)

pub its_own : (dn other : ℕ) (block : Block) (id : AskId) → other ≡ dn → (other == dn && is_block block block && is_id id id) ≡ true
its_own dn other block id same =
    and_from (other == dn && is_block block block) (is_id id id) (and_from (other == dn) (is_block block block) (eq-eqb other dn same) (same_block block)) (same_id id)

pub bad_doubts : (dn other : ℕ) (block : Block) (id : AskId) → other ≡ dn → doubts dn block id (event_of id 0 (notes.Bad other block)).kind ≡ true
bad_doubts dn other block id same = its_own dn other block id same

pub stop_doubts : (dn other count : ℕ) (block : Block) (id : AskId) → other ≡ dn
    → doubts dn block id (event_of id 0 (notes.Refused other block (refusals.Stopped count))).kind ≡ true
stop_doubts dn other count block id same =
    and_from (other == dn && is_block block block && is_id id id) true (its_own dn other block id same) refl

pub doubted : (opening : Opening) (id : AskId) (block : Block) (dn : ℕ) (story : List Event) → has_event (doubts dn block id) story ≡ true
    → is_intact opening story id block dn ≡ false
doubted opening id block dn story so =
    and_right (holds opening story dn block) (not (has_event (doubts dn block id) story)) (ap (λ (t : Bool). not t) so)

-- so it is later, of each
pub are_later : (id : AskId) (block : Block) (dns : Doubted) (later seen : List Event) → BeginsWith later seen → AreDoubted seen id block dns → AreDoubted later id block dns
are_later id block dns later seen begins are dn among = has_later (doubts dn block id) later seen begins (are dn among)
