-- Pins whose seat has seen more, or has named more blocks.
use Rattle.std.proofs.Common.{◌≡◌, ⊎_elim, ℕ, Bool, true, false, not, ◌||◌, List, [], ◌∷◌, ◌++◌, is_some, Contains, refl, sym, ◌∙◌, ap, subst, append-nil}
use Rattle.std.proofs.lemmas.Grind.{flat_map-append}
use Rattle.std.proofs.lemmas.List.Elements.{Contains-append_left, Contains-append_right, Contains-append_cases}
use Rattle.std.proofs.lemmas.List.Folds.{list_any-append}
use Rattle.oz_core.specs.declared.event.Event.{Event}
use Rattle.oz_core.specs.Asks.{answer_to, is_told}
use Rattle.oz_locks.specs.declared.pins.Pin.{Pin}
use Rattle.oz_locks.specs.Pins.{AreNamed, ArePinned, pins_in, pins_of, untold}
use Rattle.oz_locks.proofs.Pools.{in_none, of_filtered, stays_filtered}

-- who isn't told yet wasn't told before
told_before : (client line : ℕ) (seen more : List Event) → is_told client line (seen ++ more) ≡ false → is_told client line seen ≡ false
told_before client line seen more untold =
    by (is_told client line seen) (is_told client line more) (sym (list_any-append (λ (event : Event). is_some (answer_to client line event.kind)) seen more) ∙ untold)
  where
    by : (a b : Bool) → (a || b) ≡ false → a ≡ false
    by true b e = e
    by false b e = refl

pub none_pinned : (seen : List Event) (pins : List Pin) → ArePinned seen [] pins
none_pinned seen pins pin there untold = absurd (in_none pin there)

pub pinned_seen : (seen more mine : List Event) (pins : List Pin) → ArePinned seen mine pins → ArePinned (seen ++ more) mine pins
pinned_seen seen more mine pins are pin there untold = are pin there (told_before pin.client pin.line seen more untold)

pub pinned_named : (seen mine : List Event) (event : Event) (pins named : List Pin) → named ≡ pins_in event.kind → ArePinned seen mine pins
    → ArePinned (seen ++ event ∷ []) (mine ++ event ∷ []) (pins ++ named)
pinned_named seen mine event pins named is are pin there untold = ⊎_elim
    (λ before. Contains-append_left pins named pin (are pin before (told_before pin.client pin.line seen (event ∷ []) untold)))
    (λ now. Contains-append_right pins named pin (subst (λ (l : List Pin). Contains l pin) (append-nil (pins_in event.kind) ∙ sym is) now))
    (Contains-append_cases (pins_of mine) (pins_of (event ∷ [])) pin
    (subst (λ (l : List Pin). Contains l pin) (flat_map-append (λ (event : Event). pins_in event.kind) mine (event ∷ [])) there))

pub pinned_untold : (seen mine : List Event) (pins : List Pin) → ArePinned seen mine pins → ArePinned seen mine (untold seen pins)
pinned_untold seen mine pins are pin there none =
    stays_filtered (λ (pin : Pin). not (is_told pin.client pin.line seen)) pins pin (are pin there none) (ap not none)

-- each pin is of a block that was named

pub none_named : (mine : List Event) → AreNamed mine []
none_named mine pin there = absurd (in_none pin there)

pub named_more : (mine : List Event) (event : Event) (pins named : List Pin) → named ≡ pins_in event.kind → AreNamed mine pins → AreNamed (mine ++ event ∷ []) (pins ++ named)
named_more mine event pins named is are pin there =
    let last = pins_of (event ∷ []) in
    subst (λ (l : List Pin). Contains l pin) (sym (flat_map-append (λ (event : Event). pins_in event.kind) mine (event ∷ [])))
    (⊎_elim
    (λ before. Contains-append_left (pins_of mine) last pin (are pin before))
    (λ now. Contains-append_right (pins_of mine) last pin (subst (λ (l : List Pin). Contains l pin) (is ∙ sym (append-nil (pins_in event.kind))) now))
    (Contains-append_cases pins named pin there))

pub named_untold : (seen mine : List Event) (pins : List Pin) → AreNamed mine pins → AreNamed mine (untold seen pins)
named_untold seen mine pins are pin there = are pin (of_filtered (λ (pin : Pin). not (is_told pin.client pin.line seen)) pins pin there).0
