-- The events that a seat gave in a story, where events of some kinds are of that seat alone.
use Rattle.std.specs.Prelude.{◌==◌, ◌||◌, Bool, true, false, fold}
use Rattle.std.specs.List.{AllByRecursion, cons_option}
use Rattle.std.proofs.Common.{◌≡◌, ℕ, List, [], ◌∷◌, Option, None, refl, sym, ap, ◌∙◌, cond, eq-eqb}
use Rattle.std.proofs.lemmas.Bool.{false≢true}
use Rattle.oz_core.specs.declared.event.Event.{Event}
use Rattle.oz_core.specs.declared.event.EventKind.{EventKind}
use Rattle.oz_core.specs.Stories.{all_told, has_event}
use Rattle.oz_turn.specs.Told.{own_entries}

module _ (seat : ℕ) (is_its : EventKind → Bool) where
  abbrev pub IsIts : Event → Type 0
  IsIts event = is_its event.kind ≡ true → event.seat ≡ seat

  abbrev pub AreIts : List Event → Type 0
  AreIts story = AllByRecursion IsIts story

  abbrev pub own : List Event → List Event
  own story = own_entries (λ (event : Event). event.seat) seat story

  abbrev is_own : Event → Bool
  is_own event = event.seat == seat

  not_its : (b : Bool) → (b ≡ true → false ≡ true) → b ≡ false
  not_its true wrong = absurd (false≢true (wrong refl))
  not_its false wrong = refl

  other : (event : Event) → IsIts event → is_own event ≡ false → is_its event.kind ≡ false
  other event its not = not_its (is_its event.kind) (λ is. sym not ∙ eq-eqb event.seat seat (its is))

  own_kept : (event : Event) (story : List Event) → is_own event ≡ true → own (event ∷ story) ≡ event ∷ own story
  own_kept event story is = ap (λ q. cond q (event ∷ own story) (own story)) is

  own_left : (event : Event) (story : List Event) → is_own event ≡ false → own (event ∷ story) ≡ own story
  own_left event story not = ap (λ q. cond q (event ∷ own story) (own story)) not

  -- what the seat's events make of something is what all of them do, where the others leave it
  module _ {X : Type 0} (after : X → EventKind → X) (only : (x : X) (kind : EventKind) → is_its kind ≡ false → after x kind ≡ x) where
    abbrev made : X → List Event → X
    made first story = fold (λ x (event : Event). after x event.kind) first story

    pub made_by_own : (first : X) (story : List Event) → AreIts story → made first story ≡ made first (own story)
    made_by_own first [] its = refl
    made_by_own first (event ∷ story) its = by (is_own event) refl (λ x. made_by_own x story its.1)
      where
        by : (b : Bool) → is_own event ≡ b → ((x : X) → made x story ≡ made x (own story)) → made first (event ∷ story) ≡ made first (own (event ∷ story))
        by true is rest = rest (after first event.kind) ∙ ap (made first) (sym (own_kept event story is))
        by false not rest =
            ap (λ x. made x story) (only first event.kind (other event its.0 not))
            ∙ (rest first ∙ ap (made first) (sym (own_left event story not)))

  -- and so is what they tell of it
  pub told_by_own : {X : Type 0} (tells : EventKind → Option X) → ((kind : EventKind) → is_its kind ≡ false → tells kind ≡ None) → (story : List Event) → AreIts story → all_told tells story ≡ all_told tells (own story)
  told_by_own tells only [] its = refl
  told_by_own tells only (event ∷ story) its = by (is_own event) refl (told_by_own tells only story its.1)
    where
      by : (b : Bool) → is_own event ≡ b → all_told tells story ≡ all_told tells (own story) → all_told tells (event ∷ story) ≡ all_told tells (own (event ∷ story))
      by true is rest = ap (cons_option (tells event.kind)) rest ∙ ap (all_told tells) (sym (own_kept event story is))
      by false not rest =
          ap (λ o. cons_option o (all_told tells story)) (only event.kind (other event its.0 not)) ∙ rest ∙ ap (all_told tells) (sym (own_left event story not))

  pub had_by_own : (is : EventKind → Bool) → ((kind : EventKind) → is_its kind ≡ false → is kind ≡ false) → (story : List Event) → AreIts story → has_event is story ≡ has_event is (own story)
  had_by_own is only [] its = refl
  had_by_own is only (event ∷ story) its = by (is_own event) refl (had_by_own is only story its.1)
    where
      by : (b : Bool) → is_own event ≡ b → has_event is story ≡ has_event is (own story) → has_event is (event ∷ story) ≡ has_event is (own (event ∷ story))
      by true own_it rest = ap (λ t. is event.kind || t) rest ∙ ap (has_event is) (sym (own_kept event story own_it))
      by false not rest =
          ap (λ t. t || has_event is story) (only event.kind (other event its.0 not)) ∙ rest ∙ ap (has_event is) (sym (own_left event story not))
