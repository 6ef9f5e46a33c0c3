-- Which disks tell their contents.
use Rattle.std.proofs.Common.{◌≡◌, ℕ, List, Option, None, Some, refl, sym, ◌∙◌}
use Rattle.std.specs.Option.{option_map}
use Rattle.oz_world.specs.Disk.{Moves, TellsAsBefore}

-- after a step that was made in part
pub moves_tell : (step : List ℕ → List ℕ → Type 0) (before after : Option (List ℕ)) → Moves step before after
    → TellsAsBefore before after
moves_tell step None after moves = (λ _. moves, λ _. refl)
moves_tell step (Some bytes) None moves = absurd moves
moves_tell step (Some bytes) (Some left) moves = (λ none. absurd cc, λ none. absurd cc)

-- after a step that was made
pub maps_tell : (step : List ℕ → List ℕ) (before after : Option (List ℕ)) → after ≡ option_map step before
    → TellsAsBefore before after
maps_tell step None after is = (λ _. is, λ _. refl)
maps_tell step (Some bytes) after is = (λ none. absurd cc, λ none. absurd (cc (is, none)))

-- where nothing changed
pub same_tells : (before after : Option (List ℕ)) → after ≡ before → TellsAsBefore before after
same_tells before after is = (λ none. is ∙ none, λ none. sym is ∙ none)

-- one call after another
pub tells_then : (before between after : Option (List ℕ)) → TellsAsBefore before between → TellsAsBefore between after
    → TellsAsBefore before after
tells_then before between after first second = (λ none. second.0 (first.0 none), λ none. first.1 (second.1 none))
