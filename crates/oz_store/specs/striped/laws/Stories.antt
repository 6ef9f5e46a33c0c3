-- What events make of a stripe's share: those of other seats nothing.
use Rattle.std.proofs.Common.{
  ◌≡◌,
  ◌≢◌,
  ◌==◌,
  ℕ,
  Bool,
  true,
  false,
  List,
  [],
  ◌∷◌,
  ◌++◌,
  length,
  Option,
  None,
  Some,
  cond,
  refl,
  sym,
  ◌∙◌,
  ap,
  subst,
  append-nil,
  arith,
}
use Rattle.std.proofs.lemmas.Bool.{eq-eqb}
use Rattle.std.proofs.lemmas.List.{length-append}
use Rattle.std.proofs.lemmas.List.Elements.{filter-append}
use Rattle.oz_names.specs.Names.{stripe_of}
use Rattle.oz_namespace.specs.declared.namespace.Namespace.{Namespace}
use Rattle.oz_requests.specs.declared.reply.Reply.{Reply}
use Rattle.oz_requests.specs.declared.request.AskId.{AskId}
use Rattle.oz_requests.specs.declared.request.Request.{Request}
use Rattle.oz_requests.specs.Names.{volume_in}
use Rattle.oz_model.specs.Answers.{after}
use Rattle.oz_core.specs.declared.event.Event.{Event}
use Rattle.oz_core.specs.declared.event.EventKind.{EventKind}
use Rattle.oz_core.specs.declared.event.EventKind.TheVariants.{Decide}
use Rattle.oz_core.specs.declared.opening.Opening.{Opening}
use Rattle.oz_core.specs.Asks.{pending}
use Rattle.oz_core.specs.Law.{IsLegal, IsLegalFrom, KindIsEnabled}
use Rattle.oz_core.specs.Manager.{decided_index, namespace_step, namespace_after, namespace_from, namespace_of}
use Rattle.oz_core.specs.Seats.{stripe_seat}
use Rattle.oz_core.specs.Stories.{mine}
use Rattle.oz_kept.specs.laws.Places.{legal_behind, legal_first, legal_rest, moved_over, namespace_next}
use Rattle.oz_store.specs.striped.Shares.{IsOfStripe, HasAllStripes}
use Rattle.oz_store.specs.striped.laws.Requests.{after_has_all, share_after, share_elsewhere}

-- ---- one event more

pub decided_next : (opening : Opening) (story : List Event) (seat : ℕ) (id : AskId) (index : ℕ) (reply : Reply) (batch : List ℕ) (request : Request)
    → pending id story ≡ Some request
    → namespace_of opening (story ++ record { seat = seat; kind = Decide id index reply batch } ∷ []) ≡ after (namespace_of opening story) request reply
decided_next opening story seat id index reply batch request is =
    namespace_next opening story (record { seat = seat; kind = Decide id index reply batch })
    ∙ ap (λ (o : Option Request). namespace_after o (namespace_of opening story) reply) is

other_step : (before : List Event) (namespace : Namespace) (kind : EventKind) → decided_index kind ≡ None
    → namespace_step (λ index. true) before namespace kind ≡ namespace
other_step before namespace (Decide id index reply batch) none = absurd cc
other_step before namespace kind none = refl

pub others_next : (opening : Opening) (story : List Event) (event : Event) → decided_index event.kind ≡ None
    → namespace_of opening (story ++ event ∷ []) ≡ namespace_of opening story
others_next opening story event none = namespace_next opening story event ∙ other_step story (namespace_of opening story) event.kind none

-- ---- all stripes

left_has_all : (asked : Option Request) (namespace : Namespace) (reply : Reply) → HasAllStripes namespace
    → HasAllStripes (namespace_after asked namespace reply)
left_has_all None namespace reply all = all
left_has_all (Some request) namespace reply all = after_has_all namespace request reply all

step_has_all : (before : List Event) (namespace : Namespace) (kind : EventKind) → HasAllStripes namespace
    → HasAllStripes (namespace_step (λ index. true) before namespace kind)
step_has_all before namespace (Decide id index reply batch) all = left_has_all (pending id before) namespace reply all
step_has_all before namespace kind all = all

rest_has_all : (before : List Event) (namespace : Namespace) (rest : List Event) → HasAllStripes namespace
    → HasAllStripes (namespace_from (λ index. true) before namespace rest)
unfolding namespace_from
rest_has_all before namespace [] all = all
rest_has_all before namespace (event ∷ rest) all =
    rest_has_all (before ++ event ∷ []) (namespace_step (λ index. true) before namespace event.kind) rest (step_has_all before namespace event.kind all)

pub story_has_all : (opening : Opening) (story : List Event) → HasAllStripes opening.namespace → HasAllStripes (namespace_of opening story)
story_has_all opening story all = rest_has_all [] opening.namespace story all

-- ---- events of other seats

module _ (stripe : ℕ) (opening : Opening) (part : Namespace) where
  step_elsewhere : (before : List Event) (seat : ℕ) (kind : EventKind) → KindIsEnabled opening before seat kind → seat ≢ stripe_seat stripe
      → IsOfStripe stripe (namespace_of opening before) part → IsOfStripe stripe (namespace_step (λ index. true) before (namespace_of opening before) kind) part
  step_elsewhere before seat (Decide id index reply batch) enabled apart of =
      subst (λ (asked : Option Request). IsOfStripe stripe (namespace_after asked (namespace_of opening before) reply) part) (sym enabled.undecided)
      (share_elsewhere stripe (namespace_of opening before) part enabled.request reply (λ same. apart (enabled.of_stripe ∙ ap stripe_seat (sym same))) of)
  step_elsewhere before seat kind enabled apart of = of

  record Elsewhere (event : Event) (rest : List Event) : Type 0 where
    apart : event.seat ≢ stripe_seat stripe
    later : mine (stripe_seat stripe) rest ≡ []

  none_first : (event : Event) (rest : List Event) → mine (stripe_seat stripe) (event ∷ rest) ≡ [] → Elsewhere event rest
  none_first event rest none = by_test (event.seat == stripe_seat stripe) refl
    where
      kept : (t : Bool) → (event.seat == stripe_seat stripe) ≡ t → cond t (event ∷ mine (stripe_seat stripe) rest) (mine (stripe_seat stripe) rest) ≡ []
      kept t e = ap (λ (u : Bool). cond u (event ∷ mine (stripe_seat stripe) rest) (mine (stripe_seat stripe) rest)) (sym e) ∙ none

      by_test : (t : Bool) → (event.seat == stripe_seat stripe) ≡ t → Elsewhere event rest
      by_test true e = absurd (cc (kept true e))
      by_test false e = record { apart = λ same. absurd (cc (sym e ∙ eq-eqb event.seat (stripe_seat stripe) same)); later = kept false e }

  share_behind : (rest before : List Event) → IsLegalFrom opening before rest → mine (stripe_seat stripe) rest ≡ []
      → IsOfStripe stripe (namespace_of opening before) part → IsOfStripe stripe (namespace_of opening (before ++ rest)) part
  share_behind [] before legal none of = subst (λ (l : List Event). IsOfStripe stripe (namespace_of opening l) part) (sym (append-nil before)) of
  share_behind (event ∷ rest) before legal none of =
      let first = none_first event rest none in
      let next = step_elsewhere before event.seat event.kind (legal_first opening before event rest legal) first.apart of in
      subst (λ (l : List Event). IsOfStripe stripe (namespace_of opening l) part) (moved_over before rest event)
      (share_behind rest (before ++ event ∷ []) (legal_rest opening before event rest legal) first.later
      (subst (λ (n : Namespace). IsOfStripe stripe n part) (sym (namespace_next opening before event)) next))

none_more : {A : Type 0} (xs ys : List A) → xs ++ ys ≡ xs → ys ≡ []
none_more xs [] same = refl
none_more xs (y ∷ ys) same = absurd (omega (arith, length-append xs (y ∷ ys), ap (λ l. length l) same))

-- a seat that has seen a front of the story with all that is its own
pub share_of_seen : (stripe : ℕ) (opening : Opening) (story seen more : List Event) (part : Namespace) → IsLegal opening story → story ≡ seen ++ more
    → mine (stripe_seat stripe) story ≡ mine (stripe_seat stripe) seen
    → IsOfStripe stripe (namespace_of opening seen) part → IsOfStripe stripe (namespace_of opening story) part
share_of_seen stripe opening story seen more part legal parts own of =
    let test = λ (event : Event). event.seat == stripe_seat stripe in
    let none = none_more (mine (stripe_seat stripe) seen) (mine (stripe_seat stripe) more)
    (sym (filter-append test seen more) ∙ (ap (mine (stripe_seat stripe)) (sym parts) ∙ own)) in
    subst (λ (l : List Event). IsOfStripe stripe (namespace_of opening l) part) (sym parts)
    (share_behind stripe opening part more seen (legal_behind opening [] seen more (subst (IsLegalFrom opening []) parts legal)) none of)

-- what the stripe decides then
pub share_decided : (stripe : ℕ) (opening : Opening) (story : List Event) (part : Namespace) (seat : ℕ) (id : AskId) (index : ℕ) (reply : Reply)
    (batch : List ℕ) (request : Request)
    → HasAllStripes opening.namespace → pending id story ≡ Some request → stripe_of (volume_in request) ≡ stripe
    → IsOfStripe stripe (namespace_of opening story) part
    → IsOfStripe stripe (namespace_of opening (story ++ record { seat = seat; kind = Decide id index reply batch } ∷ [])) (after part request reply)
share_decided stripe opening story part seat id index reply batch request all is its of =
    subst (λ (n : Namespace). IsOfStripe stripe n (after part request reply)) (sym (decided_next opening story seat id index reply batch request is))
    (share_after stripe (namespace_of opening story) part request reply its of (story_has_all opening story all))
