use Rattle.std.proofs.Common.{sym, ◌∙◌}
use Rattle.oz_replay.specs.laws.Found.{among, among-finds}
use Rattle.oz_scm_law.specs.Words.{block_at}
use Rattle.oz_scm_law.proofs.used.has_block.Goals as goal

pub returns : goal.returns
returns c = (
  λ h. among (block_at c.args.container c.args.local) c.args.blocks.now (sym c.any_block.ensures ∙ h),
  λ there. c.any_block.ensures ∙ among-finds (block_at c.args.container c.args.local) c.args.blocks.now there,
)
