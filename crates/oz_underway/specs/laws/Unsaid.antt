-- Nothing is said for an Ask before it is decided.
use Rattle.std.proofs.Common.{
  ◌≡◌,
  inl,
  inr,
  ℕ,
  ◌≤◌,
  Bool,
  true,
  false,
  ◌||◌,
  ◌==◌,
  List,
  [],
  ◌∷◌,
  ◌++◌,
  Some,
  Contains,
  refl,
  sym,
  ap,
  ◌∙◌,
  subst,
  append-nil,
  arith,
}
use Rattle.std.proofs.lemmas.Bool.{and_parts, eqb-true, false≢true}
use Rattle.std.proofs.lemmas.List.Elements.{Contains-append_left, Contains-append_right}
use Rattle.std.proofs.lemmas.List.Folds.{list_any-append}
use Rattle.std.specs.List.{slice_get}
use Rattle.oz_fields.specs.declared.block.Block.{Block}
use Rattle.oz_script.specs.declared.lines.script.Script.{Script}
use Rattle.oz_requests.specs.declared.reply.Reply.{Reply}
use Rattle.oz_requests.specs.declared.reply.Reply.TheVariants as replies
use Rattle.oz_requests.specs.declared.request.AskId.{AskId}
use Rattle.oz_requests.specs.declared.request.Request.{Request}
use Rattle.oz_core.specs.declared.event.Event.{Event}
use Rattle.oz_core.specs.declared.event.EventKind.{EventKind}
use Rattle.oz_core.specs.declared.event.EventKind.TheVariants.{Ask, Decide, Put, Refused, Wrote}
use Rattle.oz_core.specs.declared.opening.Opening.{Opening}
use Rattle.oz_core.specs.Asks.{is_script, pending}
use Rattle.oz_core.specs.Contents.{OpeningBytes, WasGranted}
use Rattle.oz_core.specs.Law.{IsNamedOrOwn, KindIsEnabled}
use Rattle.oz_core.specs.Stories.{has_event}
use Rattle.oz_asker.specs.laws.Asks.{legal_of_follow}
use Rattle.oz_asker.specs.laws.Once.{decided_beyond}
use Rattle.oz_buffer.specs.Buffer.{AllFollow, Follows}
use Rattle.oz_kept.specs.laws.Deleted.{found_at}
use Rattle.oz_kept.specs.laws.Granted.{one_ask_id}
use Rattle.oz_underway.specs.UnderWay.{says_for}
use Rattle.oz_underway.specs.laws.Going.{kept_always}

-- a Decide of the id stands in the story
pub record IsDecided (story : List Event) (id : AskId) : Type 0 where
  pub seat : ℕ
  pub index : ℕ
  pub reply : Reply
  pub batch : List ℕ
  pub there : Contains story (record { seat = seat; kind = Decide id index reply batch })

longer : (story : List Event) (event : Event) (id : AskId) → IsDecided story id → IsDecided (story ++ event ∷ []) id
longer story event id was = record {
  seat = was.seat;
  index = was.index;
  reply = was.reply;
  batch = was.batch;
  there = Contains-append_left story (event ∷ []) _ was.there;
}

pub decided_of_grant : (story : List Event) (id : AskId) (block : Block) (before : List Event) → WasGranted story id block before → IsDecided story id
decided_of_grant story id block before was =
    let ask : Event = record { seat = was.asker; kind = Ask id was.request } in
    let event : Event = record { seat = was.stripe; kind = Decide id was.index (replies.Granted block was.pipeline) was.batch } in
    record {
      seat = was.stripe;
      index = was.index;
      reply = replies.Granted block was.pipeline;
      batch = was.batch;
      there = subst (λ (l : List Event). Contains l event) (sym was.asked)
          (Contains-append_right before (ask ∷ was.behind) event (Contains-append_right (ask ∷ []) was.behind event was.decided));
    }

-- of an event that tells, all that tell less
pub fewer_has : (is big : EventKind → Bool) → ((kind : EventKind) → is kind ≡ true → big kind ≡ true) → (story : List Event)
    → has_event big story ≡ false → has_event is story ≡ false
fewer_has is big within [] none = refl
fewer_has is big within (event ∷ story) none = by (is event.kind) refl (big event.kind) refl (λ rest. fewer_has is big within story rest) none
  where
    by : (t : Bool) → is event.kind ≡ t → (b : Bool) → big event.kind ≡ b → (has_event big story ≡ false → has_event is story ≡ false)
        → (b || has_event big story) ≡ false
        → (is event.kind || has_event is story) ≡ false
    by t so true large later none = absurd (false≢true (sym none))
    by true so false large later none = absurd (false≢true (sym large ∙ within event.kind so))
    by false so false large later none = ap (λ (t : Bool). t || has_event is story) so ∙ later none

module _ (Coherent : Type 0) (opening : Opening) (bytes : OpeningBytes) (script : Script) where
  abbrev Follow : List Event → Event → Type 0
  Follow = Follows Coherent opening bytes script

  module _ (id : AskId) (some : 1 ≤ id.step) where
    its : (front : List Event) (other : AskId) → id ≡ other → IsDecided front other → IsDecided front id
    its front other same was = subst (IsDecided front) (sym same) was

    said_now : (front : List Event) (seat : ℕ) (kind : EventKind) → KindIsEnabled opening front seat kind → says_for id kind ≡ true → IsDecided front id
    said_now front seat (Put dn block other first count) enabled same =
        its front other (one_ask_id id other same) (decided_of_grant front other block enabled.before enabled.granted)
    said_now front seat (Refused dn block other refusal) enabled same = by enabled.named
      where
        by : IsNamedOrOwn front other block → IsDecided front id
        by (inl named) = its front other (one_ask_id id other same)
            (record { seat = named.seat; index = named.index; reply = named.reply; batch = named.batch; there = named.there })
        by (inr own) =
            let first = eqb-true other.step 0 (and_parts (is_script other) (other.step == 0) own).1 in
            absurd (omega (arith, some, first, ap (λ (i : AskId). i.step) (one_ask_id id other same)))
    said_now front seat (Wrote block other) enabled same =
        its front other (one_ask_id id other same) (decided_of_grant front other block enabled.before enabled.granted)
    said_now front seat kind enabled same = absurd (false≢true same)

    pub said_of_decided : (story : List Event) → Coherent → AllFollow Follow [] story → has_event (says_for id) story ≡ true → IsDecided story id
    said_of_decided story coherent all =
        kept_always Follow (λ front. has_event (says_for id) front ≡ true → IsDecided front id) story all
        (λ front event begins follow follows was is.
        longer front event id
        (by front (has_event (says_for id) front) refl (says_for id event.kind) was (said_now front event.seat event.kind (follows.enabled coherent))
        (sym (list_any-append (λ (e : Event). says_for id e.kind) front (event ∷ [])) ∙ is)))
        (λ is. absurd (false≢true is))
      where
        by : (front : List Event) (t : Bool) → has_event (says_for id) front ≡ t → (now : Bool)
            → (has_event (says_for id) front ≡ true → IsDecided front id) → (now ≡ true → IsDecided front id)
            → (has_event (says_for id) front || (now || false)) ≡ true → IsDecided front id
        by front true so now was here is = was so
        by front false so true was here is = here refl
        by front false so false was here is = absurd (false≢true (sym (ap (λ (t : Bool). t || (false || false)) so) ∙ is))

    -- so nothing is said while it is undecided
    pub unsaid : (story : List Event) → Coherent → AllFollow Follow [] story → is_script id ≡ true → (request : Request) → pending id story ≡ Some request
        → has_event (says_for id) story ≡ false
    unsaid story coherent all of_script request waits = by (has_event (says_for id) story) refl
      where
        by : (t : Bool) → has_event (says_for id) story ≡ t → t ≡ false
        by false is = refl
        by true is =
            let was = said_of_decided story coherent all is in
            let event : Event = record { seat = was.seat; kind = Decide id was.index was.reply was.batch } in
            let found : slice_get (story ++ []) was.there.0 ≡ Some event =
            ap (λ (l : List Event). slice_get l was.there.0) (append-nil story) ∙ found_at story event was.there in
            let behind = decided_beyond opening id of_script story []
            (legal_of_follow Coherent opening bytes script story coherent all) request waits was.there.0 was.seat was.index was.reply was.batch found in
            absurd (omega (arith, behind, was.there.1))
