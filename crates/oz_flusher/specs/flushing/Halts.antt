-- For private calls: the Halt that the flusher gives last.
use Rattle.std.specs.Prelude.{◌≡◌, ℕ, List, [], ◌∷◌, ◌++◌}
use Rattle.oz_core.specs.declared.event.Event.{Event}
use Rattle.oz_flusher.specs.Steps.{halt_event}

-- the last of these events is a Halt of the manager with this count
abbrev pub EndsInHalt : List Event → ℕ → Type 0
EndsInHalt mine count = (front : List Event) × (mine ≡ front ++ halt_event count ∷ [])
