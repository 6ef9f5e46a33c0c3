-- What is asked of a line's id is one thing.
use Rattle.std.proofs.Common.{
  ◌≡◌,
  ◌⊎◌,
  ⊎_elim,
  ℕ,
  Bool,
  true,
  false,
  ◌&&◌,
  ◌==◌,
  List,
  [],
  ◌∷◌,
  ◌++◌,
  take,
  None,
  Some,
  Contains,
  cond,
  inl,
  inr,
  refl,
  sym,
  ◌∙◌,
  ap,
  subst,
  append-nil,
}
use Rattle.std.proofs.lemmas.Bool.{eqb-true, eq-eqb, and_parts, false≢true}
use Rattle.std.proofs.lemmas.List.Elements.{Contains-push, Contains-push_cases, Contains-append_left}
use Rattle.std.proofs.lemmas.List.Sums.{fold_push}
use Rattle.std.proofs.lemmas.Option.{slice_get_within, get_or_from_slice_get}
use Rattle.std.specs.List.{slice_get}
use Rattle.oz_requests.specs.declared.reply.Reply.{Reply}
use Rattle.oz_requests.specs.declared.request.AskId.{AskId}
use Rattle.oz_requests.specs.declared.request.Request.{Request}
use Rattle.oz_core.specs.declared.event.Event.{Event}
use Rattle.oz_core.specs.declared.event.EventKind.{EventKind}
use Rattle.oz_core.specs.declared.event.EventKind.TheVariants.{Ask, Decide}
use Rattle.oz_core.specs.declared.opening.Opening.{Opening}
use Rattle.oz_core.specs.Asks.{asks, is_asked, is_id, is_script, pending, pending_after}
use Rattle.oz_core.specs.Law.{IsLegal, IsLegalFrom, IsEnabled, AskIsEnabled, DecideIsEnabled}
use Rattle.oz_kept.specs.laws.Deleted.{enabled_at, found_at, got_of_taken, one_passes}
use Rattle.oz_kept.specs.laws.Places.{legal_first, legal_rest, moved_over}
use Rattle.oz_kept.specs.laws.Reached.{in_none}

an_id : ℕ → ℕ → ℕ → AskId
an_id client line step = record { client = client; line = line; step = step }

same_id : (id other : AskId) → is_id id other ≡ true → other ≡ id
unfolding an_id
same_id id other is =
    let front = and_parts (other.client == id.client && other.line == id.line) (other.step == id.step) is in
    let two = and_parts (other.client == id.client) (other.line == id.line) front.0 in
    ap (λ n. an_id n other.line other.step) (eqb-true other.client id.client two.0)
    ∙ (ap (λ n. an_id id.client n other.step) (eqb-true other.line id.line two.1) ∙ ap (λ n. an_id id.client id.line n) (eqb-true other.step id.step front.1))

id_itself : (id : AskId) → is_id id id ≡ true
id_itself id =
    ap (λ (t : Bool). t && id.line == id.line && id.step == id.step) (eq-eqb id.client id.client refl)
    ∙ (ap (λ (t : Bool). t && id.step == id.step) (eq-eqb id.line id.line refl) ∙ eq-eqb id.step id.step refl)

abbrev ask_by : ℕ → AskId → Request → Event
ask_by seat id request = record { seat = seat; kind = Ask id request }

found_among : (story : List Event) (place : ℕ) (event : Event) → slice_get story place ≡ Some event → Contains story event
found_among story place event is = (place, slice_get_within story place event is, get_or_from_slice_get story place event event is)

-- ---- what is pending was asked

abbrev WasAsked : List Event → AskId → Request → Type 0
WasAsked story id request = (seat : ℕ) × Contains story (ask_by seat id request)

module _ (id : AskId) (request : Request) where
  pending_next : (before : List Event) (event : Event) → pending id (before ++ event ∷ []) ≡ pending_after id (pending id before) event.kind
  pending_next before event = fold_push (λ told (event : Event). pending_after id told event.kind) None before event

  asked_before : (before : List Event) (event : Event) → WasAsked before id request → WasAsked (before ++ event ∷ []) id request
  asked_before before event was = (was.0, Contains-append_left before (event ∷ []) (ask_by was.0 id request) was.1)

  record IsThisOr (before : List Event) (seat : ℕ) (kind : EventKind) : Type 0 where
    asked : (record { seat = seat; kind = kind } ≡ ask_by seat id request) ⊎ (pending id before ≡ Some request)

  by_ask : (before : List Event) (seat : ℕ) (other : AskId) (asked : Request) (t : Bool) → is_id id other ≡ t
      → cond t (Some asked) (pending id before) ≡ Some request → IsThisOr before seat (Ask other asked)
  by_ask before seat other asked true same is =
      let requests : asked ≡ request = cc in
      record { asked = inl (λ i. ask_by seat (same_id id other same i) (requests i)) }
  by_ask before seat other asked false apart is = record { asked = inr is }

  by_decide : (before : List Event) (seat : ℕ) (kind : EventKind) (t : Bool) → cond t None (pending id before) ≡ Some request → IsThisOr before seat kind
  by_decide before seat kind true is = absurd (cc is)
  by_decide before seat kind false is = record { asked = inr is }

  this_or : (before : List Event) (seat : ℕ) (kind : EventKind) → pending_after id (pending id before) kind ≡ Some request → IsThisOr before seat kind
  this_or before seat (Ask other asked) is = by_ask before seat other asked (is_id id other) refl is
  this_or before seat (Decide other index reply batch) is = by_decide before seat (Decide other index reply batch) (is_id id other) is
  this_or before seat kind is = record { asked = inr is }

  rest_asked : (rest before : List Event) → (pending id before ≡ Some request → WasAsked before id request) → pending id (before ++ rest) ≡ Some request
      → WasAsked (before ++ rest) id request
  rest_asked [] before was is =
      subst (λ (l : List Event). WasAsked l id request) (sym (append-nil before))
      (was (subst (λ (l : List Event). pending id l ≡ Some request) (append-nil before) is))
  rest_asked (event ∷ rest) before was is =
      subst (λ (l : List Event). WasAsked l id request) (moved_over before rest event)
      (rest_asked rest (before ++ event ∷ []) next (subst (λ (l : List Event). pending id l ≡ Some request) (sym (moved_over before rest event)) is))
    where
      next : pending id (before ++ event ∷ []) ≡ Some request → WasAsked (before ++ event ∷ []) id request
      next pends = ⊎_elim
          (λ this. (event.seat, subst (λ (e : Event). Contains (before ++ event ∷ []) e) this (Contains-push before event)))
          (λ earlier. asked_before before event (was earlier))
          (this_or before event.seat event.kind (sym (pending_next before event) ∙ pends)).asked

  pub pending_was_asked : (story : List Event) → pending id story ≡ Some request → (seat : ℕ) × Contains story (record { seat = seat; kind = Ask id request })
  pending_was_asked story is = rest_asked story [] (λ none. absurd (cc none)) is

-- ---- a script's id is asked once

module _ (opening : Opening) (id : AskId) (script : is_script id ≡ true) where
  among_asked : (story : List Event) (seat : ℕ) (request : Request) → Contains story (ask_by seat id request) → is_asked id story ≡ true
  among_asked story seat request among = one_passes (λ (event : Event). asks id event.kind) story (ask_by seat id request) among (id_itself id)

  not_again : (before : List Event) (event : Event) (seat earlier : ℕ) (request other : Request) → IsEnabled opening before event
      → event ≡ ask_by seat id request → Contains before (ask_by earlier id other) → ⊥
  not_again before event seat earlier request other enabled is among =
      let may : AskIsEnabled opening before seat id request = subst (λ (e : Event). IsEnabled opening before e) is enabled in
      false≢true (sym (may.unasked script) ∙ among_asked before earlier other among)

  requested : EventKind → Request → Request
  requested (Ask other request) otherwise = request
  requested kind otherwise = otherwise

  AreOne : List Event → Type 0
  AreOne story = (seat other_seat : ℕ) (request other : Request) → Contains story (ask_by seat id request) → Contains story (ask_by other_seat id other)
      → request ≡ other

  next_one : (before : List Event) (event : Event) → IsEnabled opening before event → AreOne before → AreOne (before ++ event ∷ [])
  unfolding AreOne requested
  next_one before event enabled one = λ seat other_seat request other this that. ⊎_elim
      (λ early. ⊎_elim
      (λ also. one seat other_seat request other early also)
      (λ now. absurd (not_again before event other_seat seat other request enabled now early))
      (Contains-push_cases before event (ask_by other_seat id other) that))
      (λ now. ⊎_elim
      (λ early. absurd (not_again before event seat other_seat request other enabled now early))
      (λ also. ap (λ (e : Event). requested e.kind request) (sym now ∙ also))
      (Contains-push_cases before event (ask_by other_seat id other) that))
      (Contains-push_cases before event (ask_by seat id request) this)

  rest_one : (rest before : List Event) → IsLegalFrom opening before rest → AreOne before → AreOne (before ++ rest)
  rest_one [] before legal one = subst AreOne (sym (append-nil before)) one
  rest_one (event ∷ rest) before legal one =
      subst AreOne (moved_over before rest event)
      (rest_one rest (before ++ event ∷ []) (legal_rest opening before event rest legal)
      (next_one before event (legal_first opening before event rest legal) one))

  module _ (story : List Event) (legal : IsLegal opening story) where
    pub asked_once : (seat other_seat : ℕ) (request other : Request) → Contains story (record { seat = seat; kind = Ask id request })
        → Contains story (record { seat = other_seat; kind = Ask id other }) → request ≡ other
    unfolding AreOne
    asked_once = rest_one story [] legal (λ seat other_seat request other this that. absurd (in_none (ask_by seat id request) this))

    module _ (place seat : ℕ) (request : Request) (asked : slice_get story place ≡ Some (record { seat = seat; kind = Ask id request })) where
      pub pending_is_asked : (other : Request) → pending id story ≡ Some other → other ≡ request
      pending_is_asked other pends =
          let was = pending_was_asked id other story pends in
          asked_once was.0 seat other request was.1 (found_among story place (ask_by seat id request) asked)

      -- at a Decide of the id just that is pending
      pub decided_is_asked : (later decider index : ℕ) (reply : Reply) (batch : List ℕ)
          → slice_get story later ≡ Some (record { seat = decider; kind = Decide id index reply batch })
          → pending id (take later story) ≡ Some request
      decided_is_asked later decider index reply batch decided =
          let may : DecideIsEnabled opening (take later story) decider id index reply batch =
          enabled_at opening story legal later (record { seat = decider; kind = Decide id index reply batch }) decided in
          let was = pending_was_asked id may.request (take later story) may.undecided in
          let here = got_of_taken story later was.1.0 (ask_by was.0 id may.request) (found_at (take later story) (ask_by was.0 id may.request) was.1) in
          let one = asked_once was.0 seat may.request request (found_among story was.1.0 (ask_by was.0 id may.request) here)
          (found_among story place (ask_by seat id request) asked) in
          may.undecided ∙ ap Some one
