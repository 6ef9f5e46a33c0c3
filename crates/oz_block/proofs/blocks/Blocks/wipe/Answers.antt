use Rattle.std.proofs.Common.{sym, ◌∙◌}
use Rattle.oz_entries.specs.Held.{node_of}
use Rattle.oz_entries.specs.Node.{empty_node}
use Rattle.oz_entries.specs.laws.Nodes.{same_node}
use Rattle.oz_block.proofs.Changing.{kept_empty}
use Rattle.oz_block.proofs.blocks.Blocks.wipe.Goals as goal

pub invariant_of-self-2 : goal.invariant_of-self-2
invariant_of-self-2 g c = λ running. kept_empty _ _ (node_of c.self.inside.held) _ c.in-Ok.field-0 (c.self.invariant (sym c.stopped.ensures.stopped ∙ c.if-stopped.false)) c.in-Ok.ensures.cleared (same_node empty_node _ c.clear-2.ensures)
