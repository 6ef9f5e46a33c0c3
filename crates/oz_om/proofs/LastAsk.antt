-- What is pending of an id behind its last Ask.
use Rattle.std.proofs.Common.{◌≡◌, ◌⊎◌, ⊎_elim, inl, inr, ℕ, zero, suc, ◌≤◌, Contains, arith, Bool, true, false, ◌||◌, List, [], ◌∷◌, ◌++◌, take, drop, fold, Option, None, Some, is_some, cond, refl, sym, ap, ◌∙◌, subst}
use Rattle.std.proofs.lemmas.Bool.{false≢true}
use Rattle.std.proofs.lemmas.List.Sums.{fold-append}
use Rattle.oz_asker.specs.Asked.{IsAskAt}
use Rattle.std.specs.List.{slice_get}
use Rattle.oz_asker.specs.laws.Asks.{none_pending, same_id}
use Rattle.oz_core.specs.declared.event.Event.{Event}
use Rattle.oz_core.specs.declared.event.EventKind.{EventKind}
use Rattle.oz_core.specs.declared.event.EventKind.TheVariants.{Ask, Decide}
use Rattle.oz_core.specs.Asks.{asks, is_asked, is_id, pending, pending_after}
use Rattle.oz_kept.specs.laws.Deleted.{split_at}
use Rattle.oz_kept.specs.laws.Granted.{one_ask_id}
use Rattle.oz_requests.specs.declared.request.AskId.{AskId}
use Rattle.oz_requests.specs.declared.request.Request.{Request}
use Rattle.oz_om.specs.Held.{IsLastAsk}

-- what is pending once these events came, of what was so before
abbrev pub pending_behind : AskId → Option Request → List Event → Option Request
pending_behind id before more = fold (λ was (event : Event). pending_after id was event.kind) before more

pub neither : (a b : Bool) → (a || b) ≡ false → (a ≡ false) × (b ≡ false)
neither true b e = absurd (false≢true (sym e))
neither false b e = (refl, e)

one_more : (id : AskId) (before : Option Request) (kind : EventKind) → asks id kind ≡ false
    → (pending_after id before kind ≡ before) ⊎ (pending_after id before kind ≡ None)
one_more id before (Ask other request) none = inl (ap (λ (t : Bool). cond t (Some request) before) none)
one_more id before (Decide other index reply batch) none = by (is_id id other) refl
  where
    by : (t : Bool) → is_id id other ≡ t
        → (pending_after id before (Decide other index reply batch) ≡ before) ⊎ (pending_after id before (Decide other index reply batch) ≡ None)
    by true same = inr (ap (λ (t : Bool). cond t None before) same)
    by false apart = inl (ap (λ (t : Bool). cond t None before) apart)
one_more id before kind none = inl refl

-- where the id asks nothing more
pub unasked_stays : (id : AskId) (more : List Event) (before : Option Request) → is_asked id more ≡ false
    → (pending_behind id before more ≡ before) ⊎ (pending_behind id before more ≡ None)
unasked_stays id [] before none = inl refl
unasked_stays id (event ∷ more) before none =
    let parts = neither (asks id event.kind) (is_asked id more) none in
    ⊎_elim
    (λ same. subst (λ (o : Option Request). (pending_behind id o more ≡ before) ⊎ (pending_behind id o more ≡ None)) (sym same) (unasked_stays id more before parts.1))
    (λ gone. inr (subst (λ (o : Option Request). pending_behind id o more ≡ None) (sym gone) (⊎_elim (λ e. e) (λ e. e) (unasked_stays id more None parts.1))))
    (one_more id before event.kind parts.0)

pub none_stays : (id : AskId) (more : List Event) → is_asked id more ≡ false → pending_behind id None more ≡ None
none_stays id more none = ⊎_elim (λ e. e) (λ e. e) (unasked_stays id more None none)

pub pending_on : (id : AskId) (before more : List Event) → pending id (before ++ more) ≡ pending_behind id (pending id before) more
pending_on id before more = fold-append (λ was (event : Event). pending_after id was event.kind) None before more

-- what the last Ask asked is pending, or nothing is
pub last_pends : (story : List Event) (id : AskId) (place : ℕ) (request : Request) → IsAskAt story place id request → is_asked id (drop (suc place) story) ≡ false
    → is_some (pending id story) ≡ true → pending id story ≡ Some request
last_pends story id place request asked last some =
    let event : Event = record { seat = asked.0; kind = Ask id request } in
    let whole : pending id story ≡ pending_behind id (Some request) (drop (suc place) story) =
    ap (pending id) (split_at story place event asked.1)
    ∙ (pending_on id (take place story) (event ∷ drop (suc place) story)
    ∙ ap (λ (t : Bool). pending_behind id (cond t (Some request) (pending id (take place story))) (drop (suc place) story)) (same_id id)) in
    ⊎_elim (λ same. whole ∙ same) (λ none. absurd (false≢true (sym (ap is_some (whole ∙ none)) ∙ some)))
    (unasked_stays id (drop (suc place) story) (Some request) last)

-- ---- where an id asks nothing more

module _ (id : AskId) where
  abbrev NoAskFrom : List Event → ℕ → Type 0
  NoAskFrom l n = (k seat : ℕ) (other : Request) → n ≤ k → slice_get l k ≡ Some (record { seat = seat; kind = Ask id other }) → ⊥

  not_here : (l : List Event) (seat : ℕ) (kind : EventKind) → NoAskFrom (record { seat = seat; kind = kind } ∷ l) 0 → asks id kind ≡ false
  not_here l seat (Ask other request) none = by (is_id id other) refl
    where
      by : (t : Bool) → is_id id other ≡ t → asks id (Ask other request) ≡ false
      by true same = absurd (none 0 seat request (omega arith) (ap (λ (i : AskId). Some (record { seat = seat; kind = Ask i request })) (sym (one_ask_id id other same))))
      by false apart = apart
  not_here l seat kind none = refl

  pub unasked_from_on : (l : List Event) (n : ℕ) → NoAskFrom l n → is_asked id (drop n l) ≡ false
  unasked_from_on [] zero none = refl
  unasked_from_on [] (suc n) none = refl
  unasked_from_on (event ∷ l) zero none =
      ap (λ (b : Bool). b || is_asked id l) (not_here l event.seat event.kind none)
      ∙ unasked_from_on l zero (λ k seat other le is. none (suc k) seat other (omega arith) is)
  unasked_from_on (event ∷ l) (suc n) none = unasked_from_on l n (λ k seat other le is. none (suc k) seat other (omega (arith, le)) is)

  -- the last Ask is pending, where one is
  pub open_pends : (story : List Event) (place : ℕ) (request : Request) → IsAskAt story place id request → IsLastAsk story id place
      → is_some (pending id story) ≡ true → pending id story ≡ Some request
  open_pends story place request asked last some =
      last_pends story id place request asked
      (unasked_from_on story (suc place) (λ k seat other le is. last.last k seat other (omega (arith, le)) is)) some

  pub found_then : (story : List Event) → is_some (pending id story) ≡ true → ((seat : ℕ) (other : Request) → Contains story (record { seat = seat; kind = Ask id other }) → ⊥) → ⊥
  found_then story some none = by (pending id story) refl
    where
      by : (o : Option Request) → pending id story ≡ o → ⊥
      by None e = false≢true (sym (ap is_some e) ∙ some)
      by (Some request) e = none_pending id request story none e
