-- The bodies that loading gives.
use Rattle.std.specs.Prelude.{ℕ, List, map}
use Rattle.oz_journal.specs.declared.body.Body.{Body}

-- what they say
abbrev pub bodies_in : List Body → List (List ℕ)
bodies_in bodies = map (λ (body : Body). body.bytes) bodies

-- where they stand
abbrev pub places_in : List Body → List ℕ
places_in bodies = map (λ (body : Body). body.at) bodies
