use Rattle.std.proofs.Common.{inl, inr, sym, ◌∙◌}
use Rattle.oz_replay.specs.laws.Found.{false-true}
use Rattle.oz_scm_law.proofs.needed.needs_more_to.Goals as goal

pub returns-then-not-excludes : goal.returns-then-not-excludes
returns-then-not-excludes c = (
  λ h. record {
    container_allowed = λ there. false-true (sym c.if-not-excludes.true ∙ c.excludes.ensures.1 (inl there));
    pipeline_allowed = λ there. false-true (sym c.if-not-excludes.true ∙ c.excludes.ensures.1 (inr there));
    none_left = c.is_spent.ensures.0 h;
  },
  λ is. c.is_spent.ensures.1 is.none_left,
)
