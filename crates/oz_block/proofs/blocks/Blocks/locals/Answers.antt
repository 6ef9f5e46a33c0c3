use Rattle.std.proofs.lemmas.Result.{IfOk-weaker}
use Rattle.oz_block.proofs.Listed.{held_locals}
use Rattle.oz_block.proofs.blocks.Blocks.locals.Goals as goal

pub returns : goal.returns
returns g c = rw (← c.self.view_is) (IfOk-weaker c.locals.result _ _ (λ locals is. held_locals c.self.inside.held c.rows.result.now.entries c.args.container locals.items c.rows.ensures is c.locals.ensures.ordered) c.locals.ensures.locals)
