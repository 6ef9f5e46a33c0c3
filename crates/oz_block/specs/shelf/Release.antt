-- Slots that are set free.
use Rattle.std.specs.Prelude.{ℕ, ◌==◌, Bool, List}
use Rattle.std.specs.List.{list_any}

-- the slot is one of these
abbrev pub is_one_of : List ℕ → ℕ → Bool
is_one_of slots slot = list_any (λ other. other == slot) slots
