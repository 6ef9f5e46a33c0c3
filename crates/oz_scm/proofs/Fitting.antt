-- Numbers that fit.
use Rattle.std.proofs.Common.{ℕ, zero, suc, ◌<◌, List, [], ◌∷◌, get_or}
use Rattle.std.specs.List.{AllByRecursion}

-- what each place of a list has is below a bound, and so is each item
pub all_below : (bound : ℕ) (items : List ℕ) → ((i : ℕ) → get_or items i 0 < bound) → AllByRecursion (λ item. item < bound) items
all_below bound [] below = tt
all_below bound (item ∷ items) below = (below zero, all_below bound items (λ i. below (suc i)))
