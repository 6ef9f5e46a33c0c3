use Rattle.std.proofs.Common.{sym, ◌∙◌}
use Rattle.oz_legal.proofs.manager_law_lemmas.Asked.{may_go-found, may_go-finds}
use Rattle.oz_legal.proofs.manager_law.asking.may_go.Goals as goal

pub returns : goal.returns
returns c = (
  λ h. may_go-found c.args.story.now c.args.stripe c.args.local (sym c.has_let_go.ensures ∙ h),
  λ is. c.has_let_go.ensures ∙ may_go-finds c.args.story.now c.args.stripe c.args.local is,
)
