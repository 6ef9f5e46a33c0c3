use Rattle.std.proofs.Common.{ℕ, ltb, ◌||◌, ap, ◌∙◌}
use Rattle.oz_block.specs.Blocks.{node_in}
use Rattle.oz_datanode.proofs.Named.{due_is}
use Rattle.oz_datanode.proofs.deleting.is_due.Goals as goal

pub returns : goal.returns
returns g c = c.either.ensures ∙ (ap (λ (n : ℕ). ltb n c.args.txn.now.number || ltb 0 c.args.count) c.greatest.ensures ∙ due_is (node_in c.args.blocks.now) c.args.txn.now c.args.count c.requires)
