use Rattle.std.proofs.lemmas.Result.{IfOk-weaker}
use Rattle.oz_block.proofs.Listed.{held_pieces}
use Rattle.oz_block.proofs.blocks.Blocks.pieces.Goals as goal

pub returns : goal.returns
returns g c = rw (← c.self.view_is) (IfOk-weaker c.pieces.result _ _ (λ pieces is. held_pieces c.self.inside.held c.rows.result.now.entries pieces.items c.rows.ensures is c.pieces.ensures.ordered) c.pieces.ensures.pieces)
