-- What a legal story has of a script's Asks, and of the Decides of what they asked.
use Rattle.std.proofs.Common.{
  ◌≡◌,
  ⊎_elim,
  ℕ,
  zero,
  suc,
  ◌<◌,
  Bool,
  true,
  false,
  ◌&&◌,
  ◌||◌,
  ◌==◌,
  List,
  [],
  ◌∷◌,
  ◌++◌,
  take,
  Some,
  Contains,
  eq-eqb,
  refl,
  sym,
  ◌∙◌,
  ap,
  subst,
  arith,
}
use Rattle.std.proofs.lemmas.Bool.{cases_lt, and_from, false≢true}
use Rattle.std.specs.List.{slice_get}
use Rattle.oz_core.specs.declared.event.Event.{Event}
use Rattle.oz_core.specs.declared.event.EventKind.{EventKind}
use Rattle.oz_core.specs.declared.event.EventKind.TheVariants.{Ask, Decide}
use Rattle.oz_core.specs.declared.opening.Opening.{Opening}
use Rattle.oz_core.specs.Asks.{asks, is_asked, is_id, is_script, pending}
use Rattle.oz_core.specs.Contents.{OpeningBytes}
use Rattle.oz_core.specs.Law.{IsLegal, IsLegalFrom, AskIsEnabled, DecideIsEnabled}
use Rattle.oz_kept.specs.laws.Deleted.{enabled_at, found_at, got_of_taken}
use Rattle.oz_kept.specs.laws.Granted.{one_ask_id, pending_asked}
use Rattle.oz_script.specs.declared.lines.script.Script.{Script}
use Rattle.oz_requests.specs.declared.reply.Reply.{Reply}
use Rattle.oz_requests.specs.declared.request.AskId.{AskId}
use Rattle.oz_requests.specs.declared.request.Request.{Request}
use Rattle.oz_asker.specs.Asked.{IsAskAt}
use Rattle.oz_asker.specs.Decided.{IsDecidedAsAsked}
use Rattle.oz_buffer.specs.Buffer.{AllFollow, Follows}

-- ---- what follows is legal

legal_from : (Coherent : Type 0) (opening : Opening) (bytes : OpeningBytes) (script : Script) (before story : List Event) → Coherent
    → AllFollow (Follows Coherent opening bytes script) before story → IsLegalFrom opening before story
unfolding AllFollow IsLegalFrom
legal_from Coherent opening bytes script before [] coherent all = tt
legal_from Coherent opening bytes script before (event ∷ story) coherent all =
    (all.0.enabled coherent, legal_from Coherent opening bytes script (before ++ event ∷ []) story coherent all.1)

pub legal_of_follow : (Coherent : Type 0) (opening : Opening) (bytes : OpeningBytes) (script : Script) (story : List Event) → Coherent
    → AllFollow (Follows Coherent opening bytes script) [] story → IsLegal opening story
legal_of_follow Coherent opening bytes script story coherent all = legal_from Coherent opening bytes script [] story coherent all

-- ---- a script's id asks once

abbrev ask : ℕ → AskId → Request → Event
ask seat id request = record { seat = seat; kind = Ask id request }

pub same_id : (id : AskId) → is_id id id ≡ true
same_id id =
    and_from (id.client == id.client && id.line == id.line) (id.step == id.step)
    (and_from (id.client == id.client) (id.line == id.line) (eq-eqb id.client id.client refl) (eq-eqb id.line id.line refl))
    (eq-eqb id.step id.step refl)

or_true : (b : Bool) → (b || true) ≡ true
or_true true = refl
or_true false = refl

pub asked_at : (story : List Event) (place seat : ℕ) (id : AskId) (request : Request) → slice_get story place ≡ Some (ask seat id request)
    → is_asked id story ≡ true
asked_at [] place seat id request is = absurd cc
asked_at (event ∷ story) zero seat id request is =
    let same : event ≡ ask seat id request = cc in
    ap (λ (b : Bool). b || is_asked id story) (ap (λ (e : Event). asks id e.kind) same ∙ same_id id)
asked_at (event ∷ story) (suc place) seat id request is =
    ap (λ (b : Bool). asks id event.kind || b) (asked_at story place seat id request is) ∙ or_true (asks id event.kind)

pub kept_in_front : {A : Type 0} (l : List A) (k n : ℕ) (x : A) → k < n → slice_get l k ≡ Some x → slice_get (take n l) k ≡ Some x
kept_in_front [] k n x lt is = absurd cc
kept_in_front (y ∷ l) k zero x lt is = absurd (omega (arith, lt))
kept_in_front (y ∷ l) zero (suc n) x lt is = is
kept_in_front (y ∷ l) (suc k) (suc n) x lt is = kept_in_front l k n x (omega (arith, lt)) is

request_of : Request → EventKind → Request
request_of other (Ask id request) = request
request_of other kind = other

some_event : (a b : Event) → Some a ≡ Some b → a ≡ b
some_event a b e = cc

module _ (opening : Opening) (story : List Event) (legal : IsLegal opening story) (id : AskId) (of_script : is_script id ≡ true) where
  not_before : (place later seat other : ℕ) (request another : Request) → slice_get story place ≡ Some (ask seat id request)
      → slice_get story later ≡ Some (ask other id another)
      → place < later → ⊥
  not_before place later seat other request another is also lt =
      let enabled : AskIsEnabled opening (take later story) other id another = enabled_at opening story legal later (ask other id another) also in
      false≢true (sym (enabled.unasked of_script)
      ∙ asked_at (take later story) place seat id request (kept_in_front story place later (ask seat id request) lt is))

  one_place : (place later seat other : ℕ) (request another : Request) → slice_get story place ≡ Some (ask seat id request)
      → slice_get story later ≡ Some (ask other id another)
      → place ≡ later
  one_place place later seat other request another is also = ⊎_elim
      (λ lt. absurd (not_before place later seat other request another is also lt))
      (λ le. ⊎_elim
      (λ lt. absurd (not_before later place other seat another request also is lt))
      (λ ge. omega (arith, le, ge))
      (cases_lt later place))
      (cases_lt place later)

  -- so it asks one thing
  pub one_request : (place later seat other : ℕ) (request another : Request) → slice_get story place ≡ Some (ask seat id request)
      → slice_get story later ≡ Some (ask other id another)
      → request ≡ another
  unfolding request_of
  one_request place later seat other request another is also =
      let places = one_place place later seat other request another is also in
      let events = some_event (ask seat id request) (ask other id another) (sym is ∙ ap (slice_get story) places ∙ also) in
      ap (λ (event : Event). request_of request event.kind) events

  -- what is pending at a place was asked
  asked_before : (place : ℕ) (request : Request) → pending id (take place story) ≡ Some request → (at : ℕ) × IsAskAt story at id request
  asked_before place request e =
      let was = pending_asked id request (take place story) e in
      let found = found_at (take place story) (ask was.seat was.other request) was.there in
      let here = got_of_taken story place was.there.0 (ask was.seat was.other request) found in
      (was.there.0, (was.seat, here ∙ ap (λ (i : AskId). Some (ask was.seat i request)) (sym (one_ask_id id was.other was.same))))

  pub pending_is : (at place : ℕ) (request another : Request) → IsAskAt story at id request → pending id (take place story) ≡ Some another → another ≡ request
  pending_is at place request another asked e =
      let was = asked_before place another e in
      one_request was.0 at was.1.0 asked.0 another request was.1.1 asked.1

  -- and it is decided as it asked
  pub decided_as_asked : (at place seat index : ℕ) (request : Request) (reply : Reply) (batch : List ℕ) → IsAskAt story at id request
      → slice_get story place ≡ Some (record { seat = seat; kind = Decide id index reply batch }) → IsDecidedAsAsked opening story place seat id request reply
  decided_as_asked at place seat index request reply batch asked is =
      let enabled : DecideIsEnabled opening (take place story) seat id index reply batch =
      enabled_at opening story legal place (record { seat = seat; kind = Decide id index reply batch }) is in
      let same = pending_is at place request enabled.request asked enabled.undecided in
      subst (λ (r : Request). IsDecidedAsAsked opening story place seat id r reply) same
      (record { asked = enabled.undecided; of_stripe = enabled.of_stripe; one_thread = enabled.one_thread })

-- ---- the last Ask of an id

-- what is pending behind the whole story
pub pending_is_asked : (opening : Opening) (story : List Event) → IsLegal opening story → (id : AskId) → is_script id ≡ true
    → (at : ℕ) (request another : Request) → IsAskAt story at id another → pending id story ≡ Some request → IsAskAt story at id request
pending_is_asked opening story legal id of_script at request another asked e =
    let was = pending_asked id request story e in
    let found = found_at story (ask was.seat was.other request) was.there in
    let its = found ∙ ap (λ (i : AskId). Some (ask was.seat i request)) (sym (one_ask_id id was.other was.same)) in
    let same = one_request opening story legal id of_script was.there.0 at was.seat asked.0 request another its asked.1 in
    subst (λ (r : Request). IsAskAt story at id r) (sym same) asked

-- an id of which no Ask stands isn't pending
pub none_pending : (id : AskId) (request : Request) (story : List Event)
    → ((seat : ℕ) (other : Request) → Contains story (ask seat id other) → ⊥) → pending id story ≡ Some request → ⊥
none_pending id request story none e =
    let was = pending_asked id request story e in
    none was.seat request (subst (λ (i : AskId). Contains story (ask was.seat i request)) (sym (one_ask_id id was.other was.same)) was.there)
