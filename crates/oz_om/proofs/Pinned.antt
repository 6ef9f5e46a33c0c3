-- A stripe's pins are the blocks of its own that lines work on.
use Rattle.std.proofs.Common.{◌≡◌, ◌↔◌, ◌==◌, ℕ, Bool, true, false, cond, List, [], ◌∷◌, Contains, refl, sym, ap, ◌∙◌, subst}
use Rattle.std.proofs.lemmas.Bool.{eq-eqb}
use Rattle.oz_core.specs.declared.event.Event.{Event}
use Rattle.oz_core.specs.declared.event.EventKind.{EventKind}
use Rattle.oz_core.specs.declared.event.EventKind.TheVariants.{Decide}
use Rattle.oz_core.specs.declared.opening.Opening.{Opening}
use Rattle.oz_core.specs.Asks.{is_told}
use Rattle.oz_core.specs.Contents.{OpeningBytes}
use Rattle.oz_core.specs.Law.{IsLegal}
use Rattle.oz_core.specs.Manager.{named_by, pinned, pinned_by}
use Rattle.oz_core.specs.Seats.{stripe_seat}
use Rattle.oz_core.specs.Stories.{mine}
use Rattle.oz_fields.specs.declared.block.Block.{Block}
use Rattle.oz_kept.specs.laws.Reached.{in_none}
use Rattle.oz_locks.specs.declared.pins.Pin.{Pin}
use Rattle.oz_locks.specs.Pins.{AreNamed, ArePinned, pinned_blocks, pins_for, pins_in, pins_of}
use Rattle.oz_model.specs.laws.Members.{comes, filtered, joins, mapped, of_filtered, of_mapped}
use Rattle.oz_owned.specs.Own.{IsOwn}
use Rattle.oz_owned.specs.laws.Owned.{named_is_own, own_once}
use Rattle.oz_requests.specs.declared.reply.Reply.{Reply}
use Rattle.oz_requests.specs.declared.request.AskId.{AskId}
use Rattle.oz_rows.specs.RowMaps.{Rows}
use Rattle.oz_store.specs.Store.{IsStore}

-- an event is a Decide that names the block to a line
record Names (kind : EventKind) (block : Block) (client line : ℕ) : Type 0 where
  id : AskId
  index : ℕ
  reply : Reply
  batch : List ℕ
  is : kind ≡ Decide id index reply batch
  named : Contains (named_by reply) block
  of_client : id.client ≡ client
  of_line : id.line ≡ line

names_pin : (kind : EventKind) (pin : Pin) → Contains (pins_in kind) pin → Names kind pin.block pin.client pin.line
names_pin (Decide id index reply batch) pin has =
    let from = of_mapped (λ (block : Block). record { block = block; client = id.client; line = id.line }) (named_by reply) pin has in record {
      id = id;
      index = index;
      reply = reply;
      batch = batch;
      is = refl;
      named = subst (Contains (named_by reply)) (ap (λ (p : Pin). p.block) from.2) from.1;
      of_client = ap (λ (p : Pin). p.client) from.2;
      of_line = ap (λ (p : Pin). p.line) from.2;
    }
names_pin kind pin has = absurd (in_none pin has)

record Works (story : List Event) (kind : EventKind) (block : Block) : Type 0 where
  client : ℕ
  line : ℕ
  names : Names kind block client line
  untold : is_told client line story ≡ false

works_on : (story : List Event) (kind : EventKind) (block : Block) → Contains (pinned_by story kind) block → Works story kind block
works_on story (Decide id index reply batch) block has = by (is_told id.client id.line story) refl has
  where
    by : (t : Bool) → is_told id.client id.line story ≡ t → Contains (cond t [] (named_by reply)) block → Works story (Decide id index reply batch) block
    by true told has = absurd (in_none block has)
    by false untold has = record {
      client = id.client;
      line = id.line;
      names = record { id = id; index = index; reply = reply; batch = batch; is = refl; named = has; of_client = refl; of_line = refl };
      untold = untold;
    }
works_on story kind block has = absurd (in_none block has)

pins_it : (story : List Event) (kind : EventKind) (block : Block) (client line : ℕ) → Names kind block client line → is_told client line story ≡ false
    → Contains (pinned_by story kind) block
pins_it story kind block client line names untold =
    let told : is_told names.id.client names.id.line story ≡ false =
    ap (λ (n : ℕ). is_told n names.id.line story) names.of_client ∙ ap (λ (n : ℕ). is_told client n story) names.of_line ∙ untold in
    subst (λ (k : EventKind). Contains (pinned_by story k) block) (sym names.is)
    (subst (λ (t : Bool). Contains (cond t [] (named_by names.reply)) block) (sym told) names.named)

pin_of : (kind : EventKind) (block : Block) (client line : ℕ) → Names kind block client line
    → Contains (pins_in kind) (record { block = block; client = client; line = line })
pin_of kind block client line names =
    subst (λ (k : EventKind). Contains (pins_in k) (record { block = block; client = client; line = line })) (sym names.is)
    (subst (Contains (pins_for names.id names.reply)) (λ i. record { block = block; client = names.of_client i; line = names.of_line i })
    (mapped (λ (block : Block). record { block = block; client = names.id.client; line = names.id.line }) (named_by names.reply) block names.named))

module _ (opening : Opening) (bytes : OpeningBytes) (loaded : Rows) (store : IsStore loaded opening bytes) (stripe : ℕ) (story given : List Event)
    (legal : IsLegal opening story) (own_given : mine (stripe_seat stripe) story ≡ given) (pins : List Pin) (named : AreNamed given pins)
    (all : ArePinned story given pins) (untold : (pin : Pin) → Contains pins pin → is_told pin.client pin.line story ≡ false) (block : Block)
    (own : IsOwn loaded stripe story block) where
  is_worked_on : Contains (pinned_blocks pins) block → Contains (pinned story) block
  is_worked_on has =
      let from = of_mapped (λ (pin : Pin). pin.block) pins block has in
      let event = comes (λ (event : Event). pins_in event.kind) given from.0 (named from.0 from.1) in
      let names = subst (λ (b : Block). Names event.item.kind b from.0.client from.0.line) from.2 (names_pin event.item.kind from.0 event.has) in
      let there = (of_filtered (λ (event : Event). event.seat == stripe_seat stripe) story event.item
      (subst (λ (l : List Event). Contains l event.item) (sym own_given) event.there)).0 in
      joins (λ (event : Event). pinned_by story event.kind) story event.item block there
      (pins_it story event.item.kind block from.0.client from.0.line names (untold from.0 from.1))

  is_pinned : Contains (pinned story) block → Contains (pinned_blocks pins) block
  is_pinned has =
      let event = comes (λ (event : Event). pinned_by story event.kind) story block has in
      let works = works_on story event.item.kind block event.has in
      let names = works.names in
      let decide : Event = record { seat = event.item.seat; kind = Decide names.id names.index names.reply names.batch } in
      let there = subst (λ (k : EventKind). Contains story (record { seat = event.item.seat; kind = k })) names.is event.there in
      let its = named_is_own opening bytes loaded store story legal event.item.seat names.id names.index names.reply names.batch block there names.named in
      let same = own_once opening bytes loaded store story legal block its.stripe stripe its.own own in
      let among = subst (λ (l : List Event). Contains l event.item) own_given
      (filtered (λ (event : Event). event.seat == stripe_seat stripe) story event.item event.there
      (eq-eqb event.item.seat (stripe_seat stripe) (its.its ∙ ap stripe_seat same))) in
      let pin : Pin = record { block = block; client = works.client; line = works.line } in
      mapped (λ (pin : Pin). pin.block) pins pin
      (all pin (joins (λ (event : Event). pins_in event.kind) given event.item pin among (pin_of event.item.kind block works.client works.line names)) works.untold)

  pub pinned_same : Contains (pinned_blocks pins) block ↔ Contains (pinned story) block
  pinned_same = (is_worked_on, is_pinned)
