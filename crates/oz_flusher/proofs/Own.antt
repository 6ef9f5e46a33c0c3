-- The flusher's events in a story: they are of its seat, and what they tell is told by its own events alone.
use Rattle.std.specs.Prelude.{◌==◌, Bool, true, false}
use Rattle.std.specs.List.{AllByRecursion, cons_option}
use Rattle.std.proofs.Common.{◌≡◌, ◌+◌, List, [], ◌∷◌, ◌++◌, length, Option, None, refl, sym, ap, ◌∙◌, cond, eq-eqb, arith, length-append}
use Rattle.std.proofs.lemmas.Bool.{false≢true}
use Rattle.std.proofs.lemmas.List.Elements.{filter-append}
use Rattle.oz_core.specs.declared.event.Event.{Event}
use Rattle.oz_core.specs.declared.event.EventKind.{EventKind}
use Rattle.oz_core.specs.declared.event.EventKind.TheVariants.{Swap, Flushed, Halt}
use Rattle.oz_core.specs.declared.event.Node.TheVariants.{Manager}
use Rattle.oz_core.specs.Seats.{flusher_seat}
use Rattle.oz_core.specs.Stories.{all_told, last_told, newer}
use Rattle.oz_turn.specs.Told.{own_entries}

-- the kinds of event that the flusher gives
abbrev pub is_ours : EventKind → Bool
is_ours (Swap index) = true
is_ours (Flushed index moment) = true
is_ours (Halt Manager count) = true
is_ours _ = false

-- such an event is of the flusher's seat
abbrev pub IsOurs : Event → Type 0
IsOurs event = is_ours event.kind ≡ true → event.seat ≡ flusher_seat

abbrev pub AreOurs : List Event → Type 0
AreOurs story = AllByRecursion IsOurs story

-- none of these events is such a one
abbrev pub AreOthers : List Event → Type 0
AreOthers story = AllByRecursion (λ (event : Event). is_ours event.kind ≡ false) story

abbrev pub own : List Event → List Event
own story = own_entries (λ (event : Event). event.seat) flusher_seat story

abbrev is_own : Event → Bool
is_own event = event.seat == flusher_seat

-- another seat's event is no such one
bool_false : (b : Bool) → (b ≡ true → false ≡ true) → b ≡ false
bool_false true absurdly = absurd (false≢true (absurdly refl))
bool_false false absurdly = refl

other : (event : Event) → IsOurs event → is_own event ≡ false → is_ours event.kind ≡ false
other event ours not = bool_false (is_ours event.kind) (λ is. sym not ∙ eq-eqb event.seat flusher_seat (ours is))

module _ {X : Type 0} (tells : EventKind → Option X) (only : (kind : EventKind) → is_ours kind ≡ false → tells kind ≡ None) where
  -- what the flusher's events alone tell last
  pub told_own : (first : X) (story : List Event) → AreOurs story → last_told tells first (own story) ≡ last_told tells first story
  told_own first [] ours = refl
  told_own first (event ∷ story) ours = go (is_own event) refl (λ x. told_own x story ours.1)
    where
      go : (b : Bool) → is_own event ≡ b → ((x : X) → last_told tells x (own story) ≡ last_told tells x story) → last_told tells first (own (event ∷ story)) ≡ last_told tells first (event ∷ story)
      go true is rest = ap (λ q. last_told tells first (cond q (event ∷ own story) (own story))) is ∙ rest (newer (tells event.kind) first)
      go false is rest =
          ap (λ q. last_told tells first (cond q (event ∷ own story) (own story))) is
          ∙ (rest first ∙ ap (λ o. last_told tells (newer o first) story) (sym (only event.kind (other event ours.0 is))))

  -- and what they tell in all
  pub all_own : (story : List Event) → AreOurs story → all_told tells (own story) ≡ all_told tells story
  all_own [] ours = refl
  all_own (event ∷ story) ours = go (is_own event) refl (all_own story ours.1)
    where
      go : (b : Bool) → is_own event ≡ b → all_told tells (own story) ≡ all_told tells story → all_told tells (own (event ∷ story)) ≡ all_told tells (event ∷ story)
      go true is rest = ap (λ q. all_told tells (cond q (event ∷ own story) (own story))) is ∙ ap (λ l. cons_option (tells event.kind) l) rest
      go false is rest =
          ap (λ q. all_told tells (cond q (event ∷ own story) (own story))) is
          ∙ (rest ∙ ap (λ o. cons_option o (all_told tells story)) (sym (only event.kind (other event ours.0 is))))

-- what comes behind what a seat knows, without an event of its own, has none of these
pub none_own : (more : List Event) → AreOurs more → own more ≡ [] → AreOthers more
none_own [] ours none = tt
none_own (event ∷ more) ours none = go (is_own event) refl (none_own more ours.1)
  where
    go : (b : Bool) → is_own event ≡ b → (own more ≡ [] → AreOthers more) → AreOthers (event ∷ more)
    go true is rest = absurd (cc (sym (ap (λ q. cond q (event ∷ own more) (own more)) is) ∙ none))
    go false is rest = (other event ours.0 is, rest (sym (ap (λ q. cond q (event ∷ own more) (own more)) is) ∙ none))

pub ours_behind : (seen more : List Event) → AreOurs (seen ++ more) → AreOurs more
ours_behind [] more ours = ours
ours_behind (event ∷ seen) more ours = ours_behind seen more ours.1

pub ours_front : (seen more : List Event) → AreOurs (seen ++ more) → AreOurs seen
ours_front [] more ours = tt
ours_front (event ∷ seen) more ours = (ours.0, ours_front seen more ours.1)

pub no_length : (xs : List Event) → length xs ≡ 0 → xs ≡ []
no_length [] none = refl
no_length (x ∷ xs) none = absurd (omega (arith, none))

pub own_append : (xs ys : List Event) → length (own (xs ++ ys)) ≡ length (own xs) + length (own ys)
own_append xs ys = ap length (filter-append is_own xs ys) ∙ length-append (own xs) (own ys)
