use Rattle.std.proofs.Common.{ℕ, ◌<◌, get_or}
use Rattle.oz_scm_law.specs.Words.{IsEmpty}
use Rattle.oz_scm_law.proofs.steps.are_empty.Given as goal

abbrev pub invariant-loop-dn : goal.invariant-loop-dn
invariant-loop-dn l = (k : ℕ) (d : ℕ) → k < l.dn-index → IsEmpty l.fn.opening l.fn.story l.number (get_or l.dns k d)
