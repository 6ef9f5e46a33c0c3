-- A script's id is decided once.
use Rattle.std.proofs.Common.{
  ◌≡◌,
  ◌⊎◌,
  ⊎_elim,
  inl,
  inr,
  ℕ,
  zero,
  suc,
  ◌<◌,
  ◌≤◌,
  length,
  arith,
  Bool,
  true,
  false,
  ◌||◌,
  List,
  [],
  ◌∷◌,
  ◌++◌,
  None,
  Some,
  cond,
  refl,
  sym,
  ◌∙◌,
  ap,
  subst,
}
use Rattle.std.proofs.lemmas.Bool.{cases_lt, false≢true}
use Rattle.std.proofs.lemmas.Option.{none-some}
use Rattle.std.specs.List.{slice_get}
use Rattle.oz_core.specs.declared.event.Event.{Event}
use Rattle.oz_core.specs.declared.event.EventKind.{EventKind}
use Rattle.oz_core.specs.declared.event.EventKind.TheVariants.{Ask, Decide}
use Rattle.oz_core.specs.declared.opening.Opening.{Opening}
use Rattle.oz_core.specs.Asks.{asks, is_asked, is_id, is_script, pending, pending_after}
use Rattle.oz_core.specs.Law.{IsLegal, IsLegalFrom, IsEnabled, KindIsEnabled}
use Rattle.oz_core.specs.Stories.{newer}
use Rattle.oz_kept.specs.laws.Deleted.{found_at}
use Rattle.oz_kept.specs.laws.Granted.{one_ask_id, pending_asked}
use Rattle.oz_requests.specs.declared.reply.Reply.{Reply}
use Rattle.oz_requests.specs.declared.request.AskId.{AskId}
use Rattle.oz_requests.specs.declared.request.Request.{Request}
use Rattle.oz_buffer.specs.Buffer.{AllFollow}
use Rattle.oz_buffer.specs.Became.{decided_with, index_of}
use Rattle.oz_buffer.specs.laws.Courses.{asked-push, pending-push}
use Rattle.oz_buffer.specs.laws.Following.{follow-each, told-push}
use Rattle.oz_asker.specs.laws.Asks.{asked_at, same_id}

-- decided with this index, and nothing of the id is undecided
pub record IsDone (id : AskId) (index : ℕ) (story : List Event) : Type 0 where
  pub index_is : index_of id story ≡ Some index
  pub none_left : pending id story ≡ None
  pub asked : is_asked id story ≡ true

each_enabled : (opening : Opening) (before story : List Event) → IsLegalFrom opening before story → AllFollow (IsEnabled opening) before story
unfolding AllFollow IsLegalFrom
each_enabled opening before [] legal = tt
each_enabled opening before (event ∷ story) legal = (legal.0, each_enabled opening (before ++ event ∷ []) story legal.1)

-- what stands in a longer list stood before, or is the last
before_or_last : {A : Type 0} (l : List A) (last x : A) (place : ℕ) → slice_get (l ++ last ∷ []) place ≡ Some x → (slice_get l place ≡ Some x) ⊎ (last ≡ x)
before_or_last [] last x zero is = inr cc
before_or_last [] last x (suc place) is = absurd cc
before_or_last (y ∷ l) last x zero is = inl is
before_or_last (y ∷ l) last x (suc place) is = before_or_last l last x place is

in_front : {A : Type 0} (l more : List A) (place : ℕ) (x : A) → place < length l → slice_get (l ++ more) place ≡ Some x → slice_get l place ≡ Some x
in_front [] more place x lt is = absurd (omega (arith, lt))
in_front (y ∷ l) more zero x lt is = is
in_front (y ∷ l) more (suc place) x lt is = in_front l more place x (omega (arith, lt)) is

was_asked : (id : AskId) (request : Request) (story : List Event) → pending id story ≡ Some request → is_asked id story ≡ true
was_asked id request story e =
    let was = pending_asked id request story e in
    let event : Event = record { seat = was.seat; kind = Ask was.other request } in
    let found = found_at story event was.there
    ∙ ap (λ (i : AskId). Some (record { seat = was.seat; kind = Ask i request })) (sym (one_ask_id id was.other was.same)) in
    asked_at story was.there.0 was.seat id request found

module _ (opening : Opening) (id : AskId) (of_script : is_script id ≡ true) where
  -- what the next event makes of it
  record Stays (index : ℕ) (before : List Event) (kind : EventKind) : Type 0 where
    index_stays : newer (decided_with id kind) (index_of id before) ≡ Some index
    none_comes : pending_after id (pending id before) kind ≡ None

  stays : (index : ℕ) (before : List Event) (seat : ℕ) (kind : EventKind) → KindIsEnabled opening before seat kind → IsDone id index before
      → Stays index before kind
  stays index before seat (Ask other request) enabled done = by (is_id id other) refl
    where
      by : (t : Bool) → is_id id other ≡ t → Stays index before (Ask other request)
      by true same =
          let one = one_ask_id id other same in
          let unasked = enabled.unasked (ap is_script (sym one) ∙ of_script) in
          absurd (false≢true (sym unasked ∙ ap (λ (i : AskId). is_asked i before) (sym one) ∙ done.asked))
      by false apart = record {
        index_stays = done.index_is;
        none_comes = ap (λ (t : Bool). cond t (Some request) (pending id before)) apart ∙ done.none_left;
      }
  stays index before seat (Decide other at reply batch) enabled done = by (is_id id other) refl
    where
      by : (t : Bool) → is_id id other ≡ t → Stays index before (Decide other at reply batch)
      by true same =
          let one = one_ask_id id other same in
          absurd (none-some enabled.request (sym done.none_left ∙ ap (λ (i : AskId). pending i before) one ∙ enabled.undecided))
      by false apart = record {
        index_stays = ap (λ (t : Bool). newer (cond t (Some (Some at)) None) (index_of id before)) apart ∙ done.index_is;
        none_comes = ap (λ (t : Bool). cond t None (pending id before)) apart ∙ done.none_left;
      }
  stays index before seat kind enabled done = record { index_stays = done.index_is; none_comes = done.none_left }

  done_still : (index : ℕ) (before : List Event) (event : Event) → IsEnabled opening before event → IsDone id index before
      → IsDone id index (before ++ event ∷ [])
  done_still index before event enabled done =
      let next = stays index before event.seat event.kind enabled done in
      record {
        index_is = told-push (decided_with id) None before event ∙ next.index_stays;
        none_left = pending-push id before event ∙ next.none_comes;
        asked = asked-push id before event ∙ ap (λ (t : Bool). t || asks id event.kind) done.asked;
      }

  abbrev decide : ℕ → ℕ → Reply → List ℕ → Event
  decide seat index reply batch = record { seat = seat; kind = Decide id index reply batch }

  done_now : (before : List Event) (seat index : ℕ) (reply : Reply) (batch : List ℕ) → IsEnabled opening before (decide seat index reply batch)
      → IsDone id index (before ++ decide seat index reply batch ∷ [])
  done_now before seat index reply batch enabled = record {
    index_is =
        told-push (decided_with id) None before (decide seat index reply batch)
        ∙ ap (λ (t : Bool). newer (cond t (Some (Some index)) None) (index_of id before)) (same_id id);
    none_left = pending-push id before (decide seat index reply batch) ∙ ap (λ (t : Bool). cond t None (pending id before)) (same_id id);
    asked =
        asked-push id before (decide seat index reply batch)
        ∙ ap (λ (t : Bool). t || false) (was_asked id enabled.request before enabled.undecided);
  }

  abbrev AllDone : List Event → Type 0
  AllDone story = (place seat index : ℕ) (reply : Reply) (batch : List ℕ) → slice_get story place ≡ Some (decide seat index reply batch) → IsDone id index story

  all_done : (story : List Event) → IsLegal opening story → AllDone story
  all_done story legal =
      follow-each (IsEnabled opening) AllDone story
      (λ before event was enabled place seat index reply batch is. ⊎_elim
      (λ stood. done_still index before event enabled (was place seat index reply batch stood))
      (λ (last : event ≡ decide seat index reply batch). subst (λ (e : Event). IsDone id index (before ++ e ∷ [])) (sym last)
      (done_now before seat index reply batch (subst (λ (e : Event). IsEnabled opening before e) last enabled)))
      (before_or_last before event (decide seat index reply batch) place is))
      (λ place seat index reply batch is. absurd cc)
      (each_enabled opening [] story legal)

  -- so its index is that of its Decide, wherever that stands
  pub index_of_decided : (story : List Event) → IsLegal opening story → (place seat index : ℕ) (reply : Reply) (batch : List ℕ)
      → slice_get story place ≡ Some (record { seat = seat; kind = Decide id index reply batch }) → index_of id story ≡ Some index
  index_of_decided story legal place seat index reply batch is = (all_done story legal place seat index reply batch is).index_is

  -- what is pending behind a story isn't decided in it
  pub decided_beyond : (before more : List Event) → IsLegal opening before → (request : Request) → pending id before ≡ Some request
      → (place seat index : ℕ) (reply : Reply) (batch : List ℕ)
      → slice_get (before ++ more) place ≡ Some (record { seat = seat; kind = Decide id index reply batch })
      → length before ≤ place
  decided_beyond before more legal request waits place seat index reply batch is = ⊎_elim
      (λ lt. absurd (none-some request (sym (all_done before legal place seat index reply batch
      (in_front before more place (decide seat index reply batch) lt is)).none_left ∙ waits)))
      (λ le. le)
      (cases_lt place (length before))
