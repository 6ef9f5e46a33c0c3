use Rattle.std.proofs.Common.{⊎_elim, inl, inr, sym, ◌∙◌}
use Rattle.oz_replay.specs.laws.Found.{false-true}
use Rattle.oz_scm_law.proofs.needed.are_spent.Goals as goal

pub returns-then-excludes : goal.returns-then-excludes
returns-then-excludes c =
    let excluded = c.excludes.ensures.0 c.if-excludes.true in (λ h place within. inr excluded, λ all. c.if-excludes.true)

pub returns-else-excludes : goal.returns-else-excludes
returns-else-excludes c = (
  λ h place within. inl (c.are_used.ensures.0 h place within),
  λ all. c.are_used.ensures.1 (λ place within. ⊎_elim (λ used. used) (λ excluded. false-true (sym c.if-excludes.false ∙ c.excludes.ensures.1 excluded)) (all place within)),
)
