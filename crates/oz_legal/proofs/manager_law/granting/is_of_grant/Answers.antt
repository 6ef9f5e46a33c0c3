use Rattle.std.proofs.Common.{sym, ◌∙◌}
use Rattle.oz_legal.proofs.manager_law_lemmas.Granted.{grant-found, grant-finds}
use Rattle.oz_legal.proofs.manager_law.granting.is_of_grant.Goals as goal

pub returns : goal.returns
returns c = (
  λ h. grant-found c.args.stripe c.args.block c.args.pipeline c.args.story.now (sym c.has_grant.ensures ∙ h),
  λ is. c.has_grant.ensures ∙ grant-finds c.args.stripe c.args.block c.args.pipeline c.args.story.now is,
)
