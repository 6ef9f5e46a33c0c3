use Rattle.std.proofs.Common.{sym, ◌∙◌}
use Rattle.oz_law.proofs.Found.{named-found, named-finds}
use Rattle.oz_law.proofs.blocks.is_named.Goals as goal

pub returns : goal.returns
returns c = (
  λ h. named-found c.args.id c.args.block c.args.story.now (sym c.has_named.ensures ∙ h),
  λ is. c.has_named.ensures ∙ named-finds c.args.id c.args.block c.args.story.now is,
)
