use Rattle.std.proofs.Common.{sym, ◌∙◌}
use Rattle.oz_replay.specs.laws.Found.{among, among-finds}
use Rattle.oz_replay.proofs.used.has_block.Goals as goal

pub returns : goal.returns
returns c = (
  λ h. among c.args.block c.args.blocks.now (sym c.any_block.ensures ∙ h),
  λ there. c.any_block.ensures ∙ among-finds c.args.block c.args.blocks.now there,
)
