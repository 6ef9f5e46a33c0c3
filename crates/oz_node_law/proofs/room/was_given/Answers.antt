use Rattle.std.proofs.Common.{sym, ◌∙◌}
use Rattle.oz_core.specs.declared.event.Event.{Event}
use Rattle.oz_core.specs.Nodes.{is_block}
use Rattle.oz_node_law.specs.Words.{given}
use Rattle.oz_node_law.specs.laws.Held.{any_told}
use Rattle.oz_node_law.proofs.room.was_given.Goals as goal

pub returns : goal.returns
returns c = c.came.ensures ∙ sym (any_told (is_block c.args.block) (λ (event : Event). given c.args.dn event.kind) c.args.story.now)
