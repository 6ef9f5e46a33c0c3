use Rattle.std.proofs.Common.{ℕ, ◌+◌, ◌<◌}
use Rattle.oz_core.specs.Manager.{IsUsed}
use Rattle.oz_scm_law.specs.Words.{block_at}
use Rattle.oz_scm_law.proofs.used.are_used.Given as goal

abbrev pub invariant-loop-place : goal.invariant-loop-place
invariant-loop-place l = (k : ℕ) → k < l.place → IsUsed l.fn.opening l.fn.story (block_at l.container (l.first + k))
