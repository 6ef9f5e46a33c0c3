-- Seats that give nothing between two places of a story.
use Rattle.std.specs.Prelude.{◌==◌, All, Contains, drop}
use Rattle.std.proofs.Common.{◌≡◌, ◌≢◌, ⊎_elim, ◌≤◌, ℕ, Bool, true, false, List, [], ◌∷◌, ◌++◌, length, take, cond, refl, sym, ap, ◌∙◌, subst, arith, append-nil, append_assoc, length-append, eq-eqb}
use Rattle.std.proofs.lemmas.Bool.{eqb-true, false≢true}
use Rattle.std.proofs.lemmas.List.{take-append-drop, take-append-le}
use Rattle.std.proofs.Math.Seq.{take-append_seam}
use Rattle.std.proofs.lemmas.List.Elements.{All-head, All-tail, Contains-append_cases, Contains-append_left, Contains-append_right, Contains-push, filter-append}
use Rattle.oz_core.specs.declared.event.Event.{Event}
use Rattle.oz_turn.specs.Told.{BeginsWith, own_entries}
use Rattle.oz_asker.specs.declared.telling.still.Still.TheVariants as rests
use Rattle.oz_asker.specs.telling.Still.{StandsStill}

pub same_rest : {A : Type 0} (xs ys zs : List A) → xs ++ ys ≡ xs ++ zs → ys ≡ zs
same_rest [] ys zs same = same
same_rest (x ∷ xs) ys zs same = same_rest xs ys zs cc

none_longer : {A : Type 0} (xs ys : List A) → length (xs ++ ys) ≤ length xs → ys ≡ []
none_longer xs [] few = refl
none_longer xs (y ∷ ys) few = absurd (omega (arith, few, length-append xs (y ∷ ys)))

module _ (seat : ℕ) where
  abbrev pub own : List Event → List Event
  own story = own_entries (λ (event : Event). event.seat) seat story

  pub own-append : (front more : List Event) → own (front ++ more) ≡ own front ++ own more
  own-append front more = filter-append (λ (event : Event). event.seat == seat) front more

  -- who is in none of the events gave none
  others_own : (story : List Event) → All (λ (event : Event). event.seat ≢ seat) story → own story ≡ []
  others_own [] all = refl
  others_own (event ∷ story) all = by (event.seat == seat) refl (others_own story (All-tail (λ (e : Event). e.seat ≢ seat) event story all))
    where
      by : (t : Bool) → (event.seat == seat) ≡ t → own story ≡ [] → own (event ∷ story) ≡ []
      by true is rest = absurd (All-head (λ (e : Event). e.seat ≢ seat) event story all (eqb-true event.seat seat is))
      by false is rest = ap (λ (t : Bool). cond t (event ∷ own story) (own story)) is ∙ rest

  -- who stands still gave what it had given by then
  pub still_own : (story : List Event) (place : ℕ) → StandsStill story (rests.Seat seat place) → own story ≡ own (take place story)
  still_own story place still =
      ap own (sym (take-append-drop place story))
      ∙ (own-append (take place story) (drop place story)
      ∙ (ap (λ (l : List Event). own (take place story) ++ l) (others_own (drop place story) still) ∙ append-nil (own (take place story))))

  -- between two places with the same events of the seat it has given the same
  pub between : (front mid story : List Event) → BeginsWith mid front → BeginsWith story mid → own story ≡ own front → own mid ≡ own front
  between front mid story first then same =
      let whole : own story ≡ own mid ++ own then.0 = ap own then.1 ∙ own-append mid then.0 in
      let part : own mid ≡ own front ++ own first.0 = ap own first.1 ∙ own-append front first.0 in
      let none : own first.0 ≡ [] = none_longer (own front) (own first.0)
      (omega (arith, ap length whole, ap length part, ap length same, length-append (own mid) (own then.0), length-append (own front) (own first.0))) in
      part ∙ (ap (λ (l : List Event). own front ++ l) none ∙ append-nil (own front))

  pub take_begins : (story front : List Event) (place : ℕ) → BeginsWith story front → place ≤ length front → take place story ≡ take place front
  take_begins story front place begins within = ap (take place) begins.1 ∙ take-append-le place front begins.0 within

  -- so it is from each place behind that from which it stands still
  pub still_since : (story front : List Event) (place : ℕ) → BeginsWith story front → place ≤ length front
      → StandsStill story (rests.Seat seat place) → own story ≡ own front
  still_since story front place begins within still =
      let there : own story ≡ own (take place front) = still_own story place still ∙ ap own (take_begins story front place begins within) in
      there ∙ sym (between (take place front) front story (drop place front, sym (take-append-drop place front)) begins there)

  -- behind a place from which it gave nothing, none of the events is its own
  pub none_own : (front more : List Event) → own (front ++ more) ≡ own front → own more ≡ []
  none_own front more same =
      same_rest (own front) (own more) [] (sym (own-append front more) ∙ (same ∙ sym (append-nil (own front))))

  pub none_own_parts : (event : Event) (more : List Event) → own (event ∷ more) ≡ [] → (event.seat ≢ seat) × (own more ≡ [])
  none_own_parts event more none = by (event.seat == seat) refl
    where
      by : (t : Bool) → (event.seat == seat) ≡ t → (event.seat ≢ seat) × (own more ≡ [])
      by true is = absurd (cc (ap (λ (t : Bool). cond t (event ∷ own more) (own more)) (sym is) ∙ none))
      by false is = (
        λ same. false≢true (sym is ∙ eq-eqb event.seat seat same),
        ap (λ (t : Bool). cond t (event ∷ own more) (own more)) (sym is) ∙ none,
      )

  -- its own events are among all
  pub own_contained : (story : List Event) (event : Event) → Contains (own story) event → Contains story event
  own_contained [] event there = there
  own_contained (first ∷ story) event there =
      by (first.seat == seat) refl (λ behind. Contains-append_right (first ∷ []) story event (own_contained story event behind))
    where
      by : (t : Bool) → (first.seat == seat) ≡ t → (Contains (own story) event → Contains (first ∷ story) event) → Contains (first ∷ story) event
      by true is later = ⊎_elim
          (λ here. Contains-append_left (first ∷ []) story event here)
          later
          (Contains-append_cases (first ∷ []) (own story) event (subst (λ (t : Bool). Contains (cond t (first ∷ own story) (own story)) event) is there))
      by false is later = later (subst (λ (t : Bool). Contains (cond t (first ∷ own story) (own story)) event) is there)

  -- what it gave last, and hadn't given by the end of a front, stands behind each place of the front
  pub given_since : (story front : List Event) (place : ℕ) (event : Event) → BeginsWith story front → place ≤ length front
      → own story ≡ own front ++ event ∷ [] → Contains (drop place story) event
  given_since story front place event begins within more =
      let early : take place story ≡ take place front = take_begins story front place begins within in
      let whole : own story ≡ own (take place front) ++ own (drop place story) =
      ap own (sym (take-append-drop place story))
      ∙ (own-append (take place story) (drop place story) ∙ ap (λ (l : List Event). own l ++ own (drop place story)) early) in
      let first : own front ≡ own (take place front) ++ own (drop place front) =
      ap own (sym (take-append-drop place front)) ∙ own-append (take place front) (drop place front) in
      let behind : own (drop place story) ≡ own (drop place front) ++ event ∷ [] =
      same_rest (own (take place front)) (own (drop place story)) (own (drop place front) ++ event ∷ [])
      (sym whole ∙ (more ∙ (ap (λ (l : List Event). l ++ event ∷ []) first ∙ append_assoc (own (take place front)) (own (drop place front)) (event ∷ [])))) in
      own_contained (drop place story) event
      (subst (λ (l : List Event). Contains l event) (sym behind) (Contains-push (own (drop place front)) event))

pub longer : (story seen : List Event) → BeginsWith story seen → length seen ≤ length story
longer story seen begins = omega (arith, ap length begins.1, length-append seen begins.0)

-- so many events as the story had before
pub take_begun : (story seen : List Event) (n : ℕ) → BeginsWith story seen → n ≡ length seen → take n story ≡ seen
take_begun story seen n begins is =
    ap (take n) begins.1 ∙ (ap (λ (k : ℕ). take k (seen ++ begins.0)) is ∙ take-append_seam seen begins.0)
