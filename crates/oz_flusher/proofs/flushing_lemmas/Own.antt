-- The events that the flusher's seat gave in a story, and what others gave.
use Rattle.std.specs.Prelude.{◌==◌, Bool, true, false}
use Rattle.std.specs.List.{AllByRecursion, cons_option}
use Rattle.std.proofs.Common.{◌≡◌, List, [], ◌∷◌, ◌++◌, length, Option, None, refl, sym, ap, ◌∙◌, cond, eq-eqb, arith, length-append}
use Rattle.std.proofs.lemmas.Bool.{false≢true}
use Rattle.std.proofs.lemmas.List.Elements.{filter-append}
use Rattle.oz_core.specs.declared.event.Event.{Event}
use Rattle.oz_core.specs.declared.event.EventKind.{EventKind}
use Rattle.oz_core.specs.declared.event.EventKind.TheVariants.{Swap, Flushed, Halt}
use Rattle.oz_core.specs.declared.event.Node.TheVariants.{Manager}
use Rattle.oz_core.specs.Seats.{flusher_seat}
use Rattle.oz_core.specs.Stories.{all_told, last_told, newer}
use Rattle.oz_turn.specs.Told.{own_entries}

-- the kinds of event that only the flusher gives
abbrev pub is_ours : EventKind → Bool
is_ours (Swap index) = true
is_ours (Flushed index moment) = true
is_ours (Halt Manager count) = true
is_ours _ = false

abbrev pub IsOurs : Event → Type 0
IsOurs event = is_ours event.kind ≡ true → event.seat ≡ flusher_seat

abbrev pub AreOurs : List Event → Type 0
AreOurs story = AllByRecursion IsOurs story

-- none of these events is of such a kind
abbrev pub AreOthers : List Event → Type 0
AreOthers story = AllByRecursion (λ (event : Event). is_ours event.kind ≡ false) story

abbrev pub own : List Event → List Event
own story = own_entries (λ (event : Event). event.seat) flusher_seat story

abbrev pub is_own : Event → Bool
is_own event = event.seat == flusher_seat

not_ours : (b : Bool) → (b ≡ true → false ≡ true) → b ≡ false
not_ours true wrong = absurd (false≢true (wrong refl))
not_ours false wrong = refl

other : (event : Event) → IsOurs event → is_own event ≡ false → is_ours event.kind ≡ false
other event ours not = not_ours (is_ours event.kind) (λ is. sym not ∙ eq-eqb event.seat flusher_seat (ours is))

pub own_kept : (event : Event) (story : List Event) → is_own event ≡ true → own (event ∷ story) ≡ event ∷ own story
own_kept event story is = ap (λ q. cond q (event ∷ own story) (own story)) is

pub own_left : (event : Event) (story : List Event) → is_own event ≡ false → own (event ∷ story) ≡ own story
own_left event story not = ap (λ q. cond q (event ∷ own story) (own story)) not

module _ {X : Type 0} (tells : EventKind → Option X) (only : (kind : EventKind) → is_ours kind ≡ false → tells kind ≡ None) where
  -- what the flusher's events tell last is what all of them do
  pub told_own : (first : X) (story : List Event) → AreOurs story → last_told tells first story ≡ last_told tells first (own story)
  told_own first [] ours = refl
  told_own first (event ∷ story) ours = by (is_own event) refl (λ x. told_own x story ours.1)
    where
      by : (b : Bool) → is_own event ≡ b → ((x : X) → last_told tells x story ≡ last_told tells x (own story)) → last_told tells first (event ∷ story) ≡ last_told tells first (own (event ∷ story))
      by true is rest = rest (newer (tells event.kind) first) ∙ ap (last_told tells first) (sym (own_kept event story is))
      by false not rest =
          ap (λ o. last_told tells (newer o first) story) (only event.kind (other event ours.0 not))
          ∙ (rest first ∙ ap (last_told tells first) (sym (own_left event story not)))

  pub all_own : (story : List Event) → AreOurs story → all_told tells story ≡ all_told tells (own story)
  all_own [] ours = refl
  all_own (event ∷ story) ours = by (is_own event) refl (all_own story ours.1)
    where
      by : (b : Bool) → is_own event ≡ b → all_told tells story ≡ all_told tells (own story) → all_told tells (event ∷ story) ≡ all_told tells (own (event ∷ story))
      by true is rest = ap (λ l. cons_option (tells event.kind) l) rest ∙ ap (all_told tells) (sym (own_kept event story is))
      by false not rest =
          ap (λ o. cons_option o (all_told tells story)) (only event.kind (other event ours.0 not))
          ∙ (rest ∙ ap (all_told tells) (sym (own_left event story not)))

-- where the flusher gave none of them, they are others'
none_own : (more : List Event) → AreOurs more → own more ≡ [] → AreOthers more
none_own [] ours none = tt
none_own (event ∷ more) ours none = by (is_own event) refl (none_own more ours.1)
  where
    by : (b : Bool) → is_own event ≡ b → (own more ≡ [] → AreOthers more) → AreOthers (event ∷ more)
    by true is rest = absurd (cc (sym (own_kept event more is) ∙ none))
    by false not rest = (other event ours.0 not, rest (sym (own_left event more not) ∙ none))

ours_behind : (seen more : List Event) → AreOurs (seen ++ more) → AreOurs more
ours_behind [] more ours = ours
ours_behind (event ∷ seen) more ours = ours_behind seen more ours.1

no_length : (xs : List Event) → length xs ≡ 0 → xs ≡ []
no_length [] none = refl
no_length (x ∷ xs) none = absurd (omega (arith, none))

-- a story that goes on, with as many events of the flusher, goes on by others'
pub others_more : (seen more : List Event) → AreOurs (seen ++ more) → own (seen ++ more) ≡ own seen → AreOthers more
others_more seen more ours same =
    let parts = ap length (sym (filter-append is_own seen more) ∙ same) in
    let sum = length-append (own seen) (own more) in
    none_own more (ours_behind seen more ours) (no_length (own more) (omega (arith, parts, sum)))
