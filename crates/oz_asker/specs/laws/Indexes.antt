-- The indexes of Decides: a later one has no lower index, and who was decided stays so.
use Rattle.std.proofs.Common.{
  ◌≡◌,
  ℕ,
  zero,
  suc,
  ◌<◌,
  ◌≤◌,
  Bool,
  true,
  false,
  List,
  [],
  ◌∷◌,
  ◌++◌,
  take,
  drop,
  Option,
  None,
  Some,
  is_some,
  cond,
  refl,
  sym,
  ◌∙◌,
  ap,
  subst,
  arith,
}
use Rattle.std.proofs.lemmas.List.{take-append-drop}
use Rattle.std.proofs.lemmas.List.Sums.{fold-append}
use Rattle.std.specs.List.{slice_get, fold}
use Rattle.std.specs.Prelude.{IsSome}
use Rattle.oz_core.specs.declared.event.Event.{Event}
use Rattle.oz_core.specs.declared.event.EventKind.{EventKind}
use Rattle.oz_core.specs.declared.event.EventKind.TheVariants.{Decide}
use Rattle.oz_core.specs.declared.opening.Opening.{Opening}
use Rattle.oz_core.specs.Asks.{is_id}
use Rattle.oz_core.specs.Law.{IsLegal, DecideIsEnabled}
use Rattle.oz_core.specs.Manager.{last_index}
use Rattle.oz_core.specs.Stories.{newer}
use Rattle.oz_kept.specs.laws.Contents.{front_grows}
use Rattle.oz_kept.specs.laws.Deleted.{enabled_at, front_legal, legal_parts}
use Rattle.oz_kept.specs.laws.Kept.{index_rises, indexes_rise, last_next}
use Rattle.oz_requests.specs.declared.reply.Reply.{Reply}
use Rattle.oz_requests.specs.declared.request.AskId.{AskId}
use Rattle.oz_buffer.specs.Became.{decided_with, index_of}
use Rattle.oz_asker.specs.Decided.{IsDecideAt}
use Rattle.oz_asker.specs.laws.Asks.{kept_in_front, same_id}

-- ---- who was decided stays so

still_some : (id : AskId) (kind : EventKind) (before : Option ℕ) → IsSome before → IsSome (newer (decided_with id kind) before)
still_some id (Decide other index reply batch) before some = by (is_id id other)
  where
    by : (t : Bool) → IsSome (newer (cond t (Some (Some index)) None) before)
    by true = refl
    by false = some
still_some id kind before some = some

some_behind : (id : AskId) (more : List Event) (before : Option ℕ) → IsSome before
    → IsSome (fold (λ told (event : Event). newer (decided_with id event.kind) told) before more)
some_behind id [] before some = some
some_behind id (event ∷ more) before some = some_behind id more (newer (decided_with id event.kind) before) (still_some id event.kind before some)

pub decided_still : (id : AskId) (seen more : List Event) → IsSome (index_of id seen) → IsSome (index_of id (seen ++ more))
decided_still id seen more some =
    subst IsSome (sym (fold-append (λ told (event : Event). newer (decided_with id event.kind) told) None seen more))
    (some_behind id more (index_of id seen) some)

-- the event at a place decided the id
pub decided_there : (id : AskId) (reply : Reply) (story : List Event) (place : ℕ) → IsDecideAt story place id reply → IsSome (index_of id story)
decided_there id reply story place (seat, index, batch, is) = from_place story place None is
  where
    here : (kind : EventKind) (before : Option ℕ) → kind ≡ Decide id index reply batch → IsSome (newer (decided_with id kind) before)
    here kind before same =
        ap (λ (k : EventKind). is_some (newer (decided_with id k) before)) same
        ∙ ap (λ (t : Bool). is_some (newer (cond t (Some (Some index)) None) before)) (same_id id)

    from_place : (l : List Event) (k : ℕ) (before : Option ℕ) → slice_get l k ≡ Some (record { seat = seat; kind = Decide id index reply batch })
        → IsSome (fold (λ told (event : Event). newer (decided_with id event.kind) told) before l)
    from_place [] k before found = absurd cc
    from_place (event ∷ l) zero before found =
        let same : event ≡ record { seat = seat; kind = Decide id index reply batch } = cc in
        some_behind id l (newer (decided_with id event.kind) before) (here event.kind before (ap (λ (e : Event). e.kind) same))
    from_place (event ∷ l) (suc k) before found = from_place l k (newer (decided_with id event.kind) before) found

-- ---- a later Decide has no lower index

pub index_covers : (opening : Opening) (story : List Event) → IsLegal opening story
    → (place before seat other index lower : ℕ) (id one : AskId) (reply answer : Reply) (batch bytes : List ℕ) → before < place
    → slice_get story place ≡ Some (record { seat = seat; kind = Decide id index reply batch })
    → slice_get story before ≡ Some (record { seat = other; kind = Decide one lower answer bytes })
    → lower ≤ index
index_covers opening story legal place before seat other index lower id one reply answer batch bytes lt is was =
    let front = take place story in
    let event : Event = record { seat = other; kind = Decide one lower answer bytes } in
    let enabled : DecideIsEnabled opening front seat id index reply batch =
    enabled_at opening story legal place (record { seat = seat; kind = Decide id index reply batch }) is in
    let grows = front_grows front before event (kept_in_front story before place event lt was) in
    let its : last_index opening (take (suc before) front) ≡ lower = ap (last_index opening) grows ∙ last_next opening (take before front) event in
    let rises = indexes_rise opening 0 (drop (suc before) front) (take (suc before) front)
    (legal_parts opening front (suc before) (front_legal opening story legal place)) in
    let whole : last_index opening (take (suc before) front ++ drop (suc before) front) ≡ last_index opening front =
    ap (last_index opening) (take-append-drop (suc before) front) in
    let last = index_rises opening front seat id index reply batch enabled in
    omega (arith, its, rises, whole, last)
