use Rattle.std.proofs.Common.{sym, ◌∙◌, inl, inr, IsTrue}
use Rattle.oz_node_law.proofs.Found.{false-true}
use Rattle.oz_node_law.proofs.Applied.{applied, applied-by}
use Rattle.oz_node_law.proofs.deletes.has_applied.Goals as goal

pub returns-then-was_applied : goal.returns-then-was_applied
returns-then-was_applied c = (
  λ h. applied c.args.opening.now c.args.story.now c.args.dn c.args.number c.args.locals.now (inl (c.was_applied.ensures.0 c.if-was_applied.true)),
  λ is. c.if-was_applied.true,
)

pub returns-else-was_applied : goal.returns-else-was_applied
returns-else-was_applied c = (
  λ h. applied c.args.opening.now c.args.story.now c.args.dn c.args.number c.args.locals.now (inr (c.came_applied.ensures.0 h)),
  λ is. elim (applied-by c.args.opening.now c.args.story.now c.args.dn c.args.number c.args.locals.now is) as (λ e. IsTrue c.came_applied.result) [
    | inl was ↦ false-true (sym c.if-was_applied.false ∙ c.was_applied.ensures.1 was)
    | inr came ↦ c.came_applied.ensures.1 came
  ],
)
