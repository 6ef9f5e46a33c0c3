-- Which slots are taken.
use Rattle.std.specs.Prelude.{◌≡◌, ℕ, ◌<◌, ◌==◌, nat_lt, ◌&&◌, Bool, true, false, List, if◌then◌else◌}
use Rattle.std.specs.List.{slice_index_or}
use Rattle.oz_chunk.specs.declared.table.TheConstants.{SLOTS}

-- a slot is taken; no slot behind the last one is
abbrev pub is_taken : List Bool → ℕ → Bool
is_taken taken slot = slice_index_or taken slot false

-- so are all that stand below this one
abbrev pub AllTakenBelow : ℕ → List Bool → Type 0
AllTakenBelow slot taken = (lower : ℕ) → lower < slot → is_taken taken lower ≡ true

-- one slot is taken now, or free, and each other one is what it was
abbrev pub Marks : ℕ → Bool → List Bool → List Bool → Type 0
Marks slot value before after =
    (other : ℕ) → is_taken after other ≡ (if other == slot then value else is_taken before other)

-- one slot is taken now, if there is such a one, and each other one is what it was
abbrev pub Holds : ℕ → List Bool → List Bool → Type 0
Holds slot before after =
    (other : ℕ) → is_taken after other ≡ (if (other == slot) && nat_lt slot SLOTS then true else is_taken before other)
