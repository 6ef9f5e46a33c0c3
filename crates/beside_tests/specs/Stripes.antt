-- Stripes as the tests have them.
use Rattle.std.specs.Prelude.{◌≡◌, ℕ, ◌≤◌, List, length}
use Rattle.oz_core.specs.declared.event.Event.{Event}
use Rattle.oz_locks.specs.Stripe.{IsAtRest, StripeView}
use Rattle.oz_rows.specs.RowMaps.{Rows}

-- Its own events are among those that its seat has seen, so they aren't more. It is said by a number between, of which
-- there may be several: what is kept of a stripe need be no proposition.
abbrev pub AreNoMore : ℕ → List Event → List Event → Rows → Type 0
AreNoMore stripe mine seen all = (between : ℕ) × (length mine ≤ between) × (between ≤ length seen)

-- one of this number that nobody works on
pub record IsNew {T : Type 0} (number : ℕ) (s : StripeView T) : Type 0 where
  pub numbered : s.number ≡ number
  pub rests : IsAtRest 0 (Unit {0}) AreNoMore s
