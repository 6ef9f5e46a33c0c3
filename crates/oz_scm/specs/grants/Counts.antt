-- How many containers there are in each state.
use Rattle.std.specs.Prelude.{◌≡◌, ℕ, suc, ◌^◌, ◌≤◌, ◌==◌, if◌then◌else◌, List, [], ◌∷◌, Option, None, Some}
use Rattle.oz_container.specs.declared.state.State.{State}
use Rattle.oz_container.specs.declared.state.State.TheVariants as states
use Rattle.oz_scm.specs.declared.grants.container.Container.{Container}

-- the place of a state in the order in which a container goes through them
abbrev pub place_of : State → ℕ
place_of states.Open = 0
place_of states.Closing = 1
place_of states.QuasiClosed = 2
place_of states.Closed = 3
place_of states.Deleting = 4
place_of states.Deleted = 5

-- how many are in a state
abbrev pub count_in : State → List Container → ℕ
count_in state [] = 0
count_in state (container ∷ containers) =
    if place_of container.state == place_of state then suc (count_in state containers) else count_in state containers

abbrev pub counts_in : List Container → List ℕ
counts_in containers =
    count_in states.Open containers ∷ count_in states.Closing containers ∷ count_in states.QuasiClosed containers
    ∷ count_in states.Closed containers ∷ count_in states.Deleting containers ∷ count_in states.Deleted containers ∷ []

-- how many are in each state, in the order of the states; None where one of the counts is no `u32`
abbrev pub AreCounts : List Container → Option (List ℕ) → Type 0
AreCounts containers (Some counts) = counts ≡ counts_in containers
AreCounts containers None = (state : State) × (2 ^ 32 ≤ count_in state containers)
