use Rattle.std.proofs.lemmas.Result.{IfOk-weaker}
use Rattle.oz_block.proofs.Listed.{held_replicas}
use Rattle.oz_block.proofs.blocks.Blocks.replicas.Goals as goal

pub returns : goal.returns
returns g c = rw (← c.self.view_is) (IfOk-weaker c.replicas-2.result _ _ (λ states is. held_replicas c.self.inside.held c.replicas.result.now.entries states.items c.replicas.ensures is c.replicas-2.ensures.ordered) c.replicas-2.ensures.replicas)
