use Rattle.std.proofs.Common.{ℕ, ◌+◌, ◌<◌, sym, ◌∙◌, arith, below_more}
use Rattle.oz_replay.specs.laws.Found.{false-true}
use Rattle.oz_scm_law.specs.Words.{MayStepAt}
use Rattle.oz_scm_law.proofs.closing.may_step.Goals as goal

pub loop-place-preserved : goal.loop-place-preserved
loop-place-preserved c =
    below_more (λ (k : ℕ). MayStepAt c.args.opening.now c.args.story.now c.args.number c.args.by k → ⊥) c.loop-place.place c.loop-place.invariant
    (λ may. false-true (sym c.if-may_step_at.false ∙ c.may_step_at.ensures.1 may))

pub returns-else-may_step_at : goal.returns-else-may_step_at
returns-else-may_step_at c = (
  λ h. false-true h,
  λ is.
      let below : is.place < c.loop-place.place + 1 = omega (arith, is.within) in
      absurd (below_more (λ (k : ℕ). MayStepAt c.args.opening.now c.args.story.now c.args.number c.args.by k → ⊥) c.loop-place.place c.loop-place.invariant
      (λ may. false-true (sym c.if-may_step_at.false ∙ c.may_step_at.ensures.1 may)) is.place below is.may),
)
