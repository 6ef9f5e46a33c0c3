use Rattle.oz_entries.specs.declared.entry.Entry.TheVariants as entries
use Rattle.oz_entries.specs.Held.{node_of}
use Rattle.oz_block.proofs.Sizes.{is_frame}
use Rattle.oz_block.proofs.planning.plan_drop.Goals as goal

pub returns-clause-frame : goal.returns-clause-frame
returns-clause-frame c = is_frame (node_of c.args.held.now) (entries.Drop c.args.container) _ _ _ c.requires c.in_ok-body.ensures c.deref.ensures.value c.in_ok-frame.ensures.body c.in_ok-frame.ensures.size
