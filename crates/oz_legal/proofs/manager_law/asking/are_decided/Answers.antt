use Rattle.std.proofs.Common.{sym, ◌∙◌}
use Rattle.oz_legal.proofs.manager_law_lemmas.Asked.{decided, decided-by}
use Rattle.oz_legal.proofs.manager_law.asking.are_decided.Goals as goal

pub returns : goal.returns
returns c = (
  λ h. decided c.args.client c.args.line c.args.story.now (sym c.all_decided.ensures ∙ h),
  λ is. c.all_decided.ensures ∙ decided-by c.args.client c.args.line c.args.story.now is,
)
