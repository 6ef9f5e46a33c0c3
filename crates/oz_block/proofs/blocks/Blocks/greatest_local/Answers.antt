use Rattle.oz_block.proofs.Listed.{held_greatest}
use Rattle.oz_block.proofs.blocks.Blocks.greatest_local.Goals as goal

pub returns : goal.returns
returns g c = rw (← c.self.view_is) (held_greatest c.self.inside.held c.rows.result.now.entries c.greatest.result c.rows.ensures c.greatest.ensures.greatest c.greatest.ensures.ordered)
