-- The container in which ids are granted.
use Rattle.std.specs.Prelude.{◌≡◌, ◌⊎◌, ℕ, ◌<◌, ◌≤◌, List, Some, Contains}
use Rattle.oz_container.specs.declared.state.State.TheVariants.{Open}
use Rattle.oz_scm.specs.declared.grants.container.Container.{Container}
use Rattle.oz_scm.specs.declared.grants.limits.TheConstants.{MOST_GRANTED}
use Rattle.oz_scm.specs.grants.Made.{container_at, next_number}

-- a container that is open and has room for a grant
pub record HasRoom (containers : List Container) (number : ℕ) : Type 0 where
  pub container : Container
  pub there : container_at containers number ≡ Some container
  pub opened : container.state ≡ Open
  pub few : container.granted ≤ MOST_GRANTED

-- one on this pipeline that isn't excluded
pub record MayTake (containers : List Container) (pipeline : ℕ) (excluded : List ℕ) (number : ℕ) : Type 0 where
  pub room : HasRoom containers number
  pub on : room.container.pipeline ≡ pipeline
  pub allowed : ¬ Contains excluded number

-- the lowest such, and where there is none the next that is made
abbrev pub IsChosen : List Container → ℕ → List ℕ → ℕ → Type 0
IsChosen containers pipeline excluded number =
    (MayTake containers pipeline excluded number
    × ((lower : ℕ) → lower < number → ¬ MayTake containers pipeline excluded lower))
    ⊎ ((number ≡ next_number containers) × ((any : ℕ) → ¬ MayTake containers pipeline excluded any))
