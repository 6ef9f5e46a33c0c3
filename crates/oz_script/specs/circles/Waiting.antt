-- Which lines wait for which, and the chain of each client's lines.
use Rattle.std.specs.Prelude.{◌≡◌, ◌<◌, ◌≤◌, ◌⊎◌, ℕ, List, length, Some}
use Rattle.std.specs.List.{slice_get}
use Rattle.std.specs.Option.{IsSomeAnd}
use Rattle.oz_script.specs.declared.circles.waits.Waits.{Waits}

-- the line is one of the client
abbrev pub IsOf : List Waits → ℕ → ℕ → Type 0
IsOf lines line client = IsSomeAnd (slice_get lines line) (λ waits. waits.client ≡ client)

-- another line is the one before of its client
abbrev pub IsBefore : List Waits → ℕ → ℕ → Type 0
IsBefore lines line before = IsSomeAnd (slice_get lines line) (λ waits. waits.before ≡ Some before)

-- the line waits for another
abbrev pub WaitsFor : List Waits → ℕ → ℕ → Type 0
WaitsFor lines line other =
    IsSomeAnd (slice_get lines line) (λ waits. (waits.before ≡ Some other) ⊎ (waits.after ≡ Some other))

-- Each client's lines stand in a chain, from the last to the first.
pub record AreChained (lines : List Waits) : Type 0 where
  -- what a line waits for is a line,
  pub known : (line other : ℕ) → WaitsFor lines line other → other < length lines
  -- the one before is an earlier one of its client,
  pub earlier : (line before : ℕ) → IsBefore lines line before
      → (before < line) × ((client : ℕ) → IsOf lines line client → IsOf lines before client)
  -- and there is one where any is earlier, of which it is the nearest
  pub nearest : (line other client : ℕ) → IsOf lines line client → IsOf lines other client → other < line
      → (before : ℕ) × IsBefore lines line before × (other ≤ before)
