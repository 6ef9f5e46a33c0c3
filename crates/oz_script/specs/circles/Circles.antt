-- Lines that come back to themselves, by going from a line to those for which it waits. Lines are given by their
-- places, counted from 0.
use Rattle.std.specs.Prelude.{ℕ, ◌<◌, List, [], ◌∷◌, Option, None, Some}

-- From a line to the next and so on to the last, where each waits for the one after it.
abbrev pub Leads : (ℕ → ℕ → Type 0) → ℕ → List ℕ → ℕ → Type 0
Leads Waits from [] to = Waits from to
Leads Waits from (next ∷ between) to = Waits from next × Leads Waits next between to

-- One line leads to another, by at least one step.
abbrev pub LeadsTo : (ℕ → ℕ → Type 0) → ℕ → ℕ → Type 0
LeadsTo Waits from to = (between : List ℕ) × Leads Waits from between to

-- A line comes back to itself.
abbrev pub ComesBack : (ℕ → ℕ → Type 0) → ℕ → Type 0
ComesBack Waits line = LeadsTo Waits line line

-- This is the first line that comes back to itself, or none does.
abbrev pub IsFirstBack : (ℕ → ℕ → Type 0) → Option ℕ → Type 0
IsFirstBack Waits None = (line : ℕ) → ComesBack Waits line → ⊥
IsFirstBack Waits (Some first) = ComesBack Waits first × ((line : ℕ) → line < first → ComesBack Waits line → ⊥)
