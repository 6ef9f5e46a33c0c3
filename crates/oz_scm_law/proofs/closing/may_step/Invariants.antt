use Rattle.std.proofs.Common.{ℕ, ◌<◌}
use Rattle.oz_scm_law.specs.Words.{MayStepAt}
use Rattle.oz_scm_law.proofs.closing.may_step.Given as goal

abbrev pub invariant-loop-place : goal.invariant-loop-place
invariant-loop-place l = (k : ℕ) → k < l.place → MayStepAt l.fn.opening l.fn.story l.number l.by k → ⊥
