-- Events that a test finds in a story.
use Rattle.std.proofs.Common.{◌≡◌, ℕ, Bool, true, false, ◌&&◌, ◌==◌, List, refl, sym, ◌∙◌, ap, subst}
use Rattle.std.proofs.lemmas.Bool.{eqb-true, eq-eqb}
use Rattle.std.proofs.lemmas.List.Folds.{Any-from_list_any, list_any-from_Any}
use Rattle.std.proofs.lemmas.Map.Views.{Contains-from_any}
use Rattle.std.specs.List.{list_any, Contains, Any}
use Rattle.oz_fields.specs.declared.block.Block.{Block}
use Rattle.oz_requests.specs.declared.request.AskId.{AskId}
use Rattle.oz_core.specs.declared.event.Event.{Event}
use Rattle.oz_core.specs.declared.event.EventKind.{EventKind}
use Rattle.oz_core.specs.declared.event.EventKind.TheVariants as kind
use Rattle.oz_core.specs.Asks.{is_id}
use Rattle.oz_core.specs.Law.{IsNamed, IsPurged}
use Rattle.oz_core.specs.Manager.{named_by}
use Rattle.oz_core.specs.Nodes.{is_block}
use Rattle.oz_core.specs.Stories.{has_event}
use Rattle.oz_law.specs.Words.{names, purges}

false-true : {X : Type 0} → false ≡ true → X
false-true h = absurd (cc)

both : (a b : Bool) → (a && b) ≡ true → (a ≡ true) × (b ≡ true)
both true true h = (refl, refl)
both true false h = false-true h
both false b h = false-true h

-- an event that is so, and that such an event is found
record Found (is : EventKind → Bool) (story : List Event) : Type 0 where
  event : Event
  there : Contains story event
  so : is event.kind ≡ true

found : (is : EventKind → Bool) (story : List Event) → has_event is story ≡ true → Found is story
found is story h =
    let a : Any (λ (event : Event). is event.kind ≡ true) story = Any-from_list_any (λ (event : Event). is event.kind) story h in
    record { event = a.1; there = (a.0, a.2, a.3); so = a.4 }

finds : (is : EventKind → Bool) (story : List Event) (event : Event) → Contains story event → is event.kind ≡ true → has_event is story ≡ true
finds is story event there so = list_any-from_Any (λ (e : Event). is e.kind) story (there.0, event, there.1, there.2, so)

-- ids and blocks that a test takes for one are one

abbrev ask_id : ℕ → ℕ → ℕ → AskId
ask_id client line step = record { client = client; line = line; step = step }

same_id : (id other : AskId) → is_id id other ≡ true → other ≡ id
same_id id other h =
    let front : ((other.client == id.client && other.line == id.line) ≡ true) × ((other.step == id.step) ≡ true) = both (other.client == id.client && other.line == id.line) (other.step == id.step) h in
    let two : ((other.client == id.client) ≡ true) × ((other.line == id.line) ≡ true) = both (other.client == id.client) (other.line == id.line) front.0 in
    ap (λ (n : ℕ). ask_id n other.line other.step) (eqb-true other.client id.client two.0)
    ∙ (ap (λ (n : ℕ). ask_id id.client n other.step) (eqb-true other.line id.line two.1)
    ∙ ap (λ (n : ℕ). ask_id id.client id.line n) (eqb-true other.step id.step front.1))

id_itself : (id : AskId) → is_id id id ≡ true
id_itself id =
    ap (λ (b : Bool). b && id.line == id.line && id.step == id.step) (eq-eqb id.client id.client refl)
    ∙ (ap (λ (b : Bool). b && id.step == id.step) (eq-eqb id.line id.line refl) ∙ eq-eqb id.step id.step refl)

abbrev block_of : ℕ → ℕ → Block
block_of container local = record { container = container; local = local }

same_block : (block other : Block) → is_block block other ≡ true → block ≡ other
same_block block other h =
    let two : ((other.container == block.container) ≡ true) × ((other.local == block.local) ≡ true) = both (other.container == block.container) (other.local == block.local) h in
    ap (λ (n : ℕ). block_of n block.local) (sym (eqb-true other.container block.container two.0))
    ∙ ap (λ (n : ℕ). block_of other.container n) (sym (eqb-true other.local block.local two.1))

block_itself : (block : Block) → is_block block block ≡ true
block_itself block = ap (λ (b : Bool). b && block.local == block.local) (eq-eqb block.container block.container refl) ∙ eq-eqb block.local block.local refl

among : (block : Block) (blocks : List Block) → list_any (is_block block) blocks ≡ true → Contains blocks block
among block blocks h = Contains-from_any same_block block blocks h

among-finds : (block : Block) (blocks : List Block) → Contains blocks block → list_any (is_block block) blocks ≡ true
among-finds block blocks there = list_any-from_Any (is_block block) blocks (there.0, block, there.1, there.2, block_itself block)

-- ---- what named a block

named : (id : AskId) (block : Block) (story : List Event) (seat : ℕ) (kind : EventKind) → Contains story (record { seat = seat; kind = kind }) → names id block kind ≡ true → IsNamed story id block
named id block story seat (kind.Ask other request) there so = false-true so
named id block story seat (kind.Decide other index reply batch) there so =
    let two : (is_id id other ≡ true) × (list_any (is_block block) (named_by reply) ≡ true) = both (is_id id other) (list_any (is_block block) (named_by reply)) so in
    record {
      seat = seat;
      index = index;
      reply = reply;
      batch = batch;
      there = subst (λ (i : AskId). Contains story (record { seat = seat; kind = kind.Decide i index reply batch })) (same_id id other two.0) there;
      named = among block (named_by reply) two.1;
    }
named id block story seat (kind.Swap index) there so = false-true so
named id block story seat (kind.Flushed index moment) there so = false-true so
named id block story seat (kind.Halt node count) there so = false-true so
named id block story seat (kind.Grant stripe container pipeline first count) there so = false-true so
named id block story seat (kind.Up dn) there so = false-true so
named id block story seat (kind.Down dn) there so = false-true so
named id block story seat (kind.Put dn put other first count) there so = false-true so
named id block story seat (kind.Refused dn put other refusal) there so = false-true so
named id block story seat (kind.Wrote put other) there so = false-true so
named id block story seat (kind.Bad dn put other) there so = false-true so
named id block story seat (kind.PurgeAsk blocks) there so = false-true so
named id block story seat (kind.Log txn container locals) there so = false-true so
named id block story seat (kind.Delete dn txn locals) there so = false-true so
named id block story seat (kind.AckDel dn txn) there so = false-true so
named id block story seat (kind.Retire txn) there so = false-true so
named id block story seat (kind.Copy source target put) there so = false-true so
named id block story seat (kind.Stop dn) there so = false-true so
named id block story seat (kind.Start dn) there so = false-true so
named id block story seat (kind.Wipe dn) there so = false-true so
named id block story seat (kind.CloseCommand dn container) there so = false-true so
named id block story seat (kind.Closed container state) there so = false-true so
named id block story seat (kind.Told client line answer) there so = false-true so

pub named-found : (id : AskId) (block : Block) (story : List Event) → has_event (names id block) story ≡ true → IsNamed story id block
named-found id block story h =
    let f : Found (names id block) story = found (names id block) story h in
    named id block story f.event.seat f.event.kind f.there f.so

pub named-finds : (id : AskId) (block : Block) (story : List Event) → IsNamed story id block → has_event (names id block) story ≡ true
named-finds id block story is =
    finds (names id block) story (record { seat = is.seat; kind = kind.Decide id is.index is.reply is.batch }) is.there
    (ap (λ (b : Bool). b && list_any (is_block block) (named_by is.reply)) (id_itself id) ∙ among-finds block (named_by is.reply) is.named)

-- ---- what is to be deleted

purged : (block : Block) (story : List Event) (seat : ℕ) (kind : EventKind) → Contains story (record { seat = seat; kind = kind }) → purges block kind ≡ true → IsPurged story block
purged block story seat (kind.Ask other request) there so = false-true so
purged block story seat (kind.Decide other index reply batch) there so = false-true so
purged block story seat (kind.Swap index) there so = false-true so
purged block story seat (kind.Flushed index moment) there so = false-true so
purged block story seat (kind.Halt node count) there so = false-true so
purged block story seat (kind.Grant stripe container pipeline first count) there so = false-true so
purged block story seat (kind.Up dn) there so = false-true so
purged block story seat (kind.Down dn) there so = false-true so
purged block story seat (kind.Put dn put other first count) there so = false-true so
purged block story seat (kind.Refused dn put other refusal) there so = false-true so
purged block story seat (kind.Wrote put other) there so = false-true so
purged block story seat (kind.Bad dn put other) there so = false-true so
purged block story seat (kind.PurgeAsk blocks) there so = record { seat = seat; blocks = blocks; there = there; among = among block blocks so }
purged block story seat (kind.Log txn container locals) there so = false-true so
purged block story seat (kind.Delete dn txn locals) there so = false-true so
purged block story seat (kind.AckDel dn txn) there so = false-true so
purged block story seat (kind.Retire txn) there so = false-true so
purged block story seat (kind.Copy source target put) there so = false-true so
purged block story seat (kind.Stop dn) there so = false-true so
purged block story seat (kind.Start dn) there so = false-true so
purged block story seat (kind.Wipe dn) there so = false-true so
purged block story seat (kind.CloseCommand dn container) there so = false-true so
purged block story seat (kind.Closed container state) there so = false-true so
purged block story seat (kind.Told client line answer) there so = false-true so

pub purged-found : (block : Block) (story : List Event) → has_event (purges block) story ≡ true → IsPurged story block
purged-found block story h =
    let f : Found (purges block) story = found (purges block) story h in
    purged block story f.event.seat f.event.kind f.there f.so

pub purged-finds : (block : Block) (story : List Event) → IsPurged story block → has_event (purges block) story ≡ true
purged-finds block story is =
    finds (purges block) story (record { seat = is.seat; kind = kind.PurgeAsk is.blocks }) is.there (among-finds block is.blocks is.among)
