use Rattle.std.proofs.Common.{◌∙◌}
use Rattle.oz_epochs.proofs.Orders.{without_first}
use Rattle.oz_epochs.proofs.list.EpochList.pop_to.Goals as goal

pub returns-clause-rest : goal.returns-clause-rest
returns-clause-rest g c =
    let n = c.in_ok-slot.node.now in
    c.remove.ensures.rest ∙ without_first c.in_ok-slot.slot n.epoch n.key c.args.self.now.entries c.in_ok-slot.ensures.front c.in_ok-slot.ensures.order
