use Rattle.std.proofs.Common.{◌≡◌, ◌≤◌, ℕ, length}
use Rattle.oz_core.specs.Fits.{line_numbers, told_lines}
use Rattle.oz_running.proofs.counting.each_is_told_as_many.Given as goal

-- so it is of the clients so far
abbrev pub invariant-loop-client : goal.invariant-loop-client
invariant-loop-client g l = (other : ℕ) → 1 ≤ other → other ≤ l.client → length (told_lines other l.ledger.story) ≡ length (line_numbers l.script other)
