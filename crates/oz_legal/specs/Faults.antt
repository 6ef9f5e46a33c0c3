-- Where a story first breaks the law.
use Rattle.std.specs.Prelude.{◌≡◌, ℕ, List, take, Some}
use Rattle.std.specs.List.{slice_get}
use Rattle.oz_core.specs.declared.event.Event.{Event}
use Rattle.oz_core.specs.declared.opening.Opening.{Opening}
use Rattle.oz_core.specs.Law.{IsEnabled, IsLegal}

-- At this place, counted from 0, stands an event that may not follow those before it. Each of those may.
pub record IsFirstFault (opening : Opening) (story : List Event) (place : ℕ) : Type 0 where
  pub before : IsLegal opening (take place story)
  pub event : Event
  pub there : slice_get story place ≡ Some event
  pub refused : IsEnabled opening (take place story) event → ⊥
