use Rattle.std.proofs.Common.{subst, sym, ◌∙◌}
use Rattle.oz_replicas.specs.Cells.{AreInOrder}
use Rattle.beside_tests.proofs.members.with_next.Goals as goal

pub returns-clause-in_order : goal.returns-clause-in_order
returns-clause-in_order c place one at =
    subst AreInOrder (sym c.in_ok-push.ensures.items)
    (c.cells_stay_in_order.ensures.pushed _ _ c.requires.in_order (c.in_ok-next.ensures ∙ sym c.requires.count)) place one at
