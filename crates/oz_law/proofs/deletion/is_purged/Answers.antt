use Rattle.std.proofs.Common.{sym, ◌∙◌}
use Rattle.oz_law.proofs.Found.{purged-found, purged-finds}
use Rattle.oz_law.proofs.deletion.is_purged.Goals as goal

pub returns : goal.returns
returns c = (
  λ h. purged-found c.args.block c.args.story.now (sym c.has_purged.ensures ∙ h),
  λ is. c.has_purged.ensures ∙ purged-finds c.args.block c.args.story.now is,
)
