-- What a seat knows to be flushed, by the Flushed that it has seen.
use Rattle.std.specs.Prelude.{◌≡◌, ◌⊎◌, ℕ, List, Some, Any}
use Rattle.oz_core.specs.declared.event.Event.{Event}
use Rattle.oz_core.specs.Manager.{stable_index}
use Rattle.oz_core.specs.Stories.{last_told}

-- the index of the last of them; that of the disk as the run began, where there is none
abbrev pub flushed_in : ℕ → List Event → ℕ
flushed_in opened seen = last_told stable_index opened seen

-- all writes up to this index are on the disk: it was so as the run began, or a Flushed of it stands there
abbrev pub IsFlushed : ℕ → List Event → ℕ → Type 0
IsFlushed opened seen index = (index ≡ opened) ⊎ Any (λ (event : Event). stable_index event.kind ≡ Some index) seen
