use Rattle.std.proofs.Common.{◌↔◌, IsTrue, sym, subst}
use Rattle.oz_core.specs.Law.{KindIsEnabled}
use Rattle.oz_legal.proofs.enabling.of_nodes_is_enabled.Goals as goal

pub returns-in-CloseCommand : goal.returns-in-CloseCommand
returns-in-CloseCommand c =
    subst (λ kind. IsTrue c.close_command_is_enabled.result ↔ KindIsEnabled c.args.opening.now c.args.story.now c.args.seat kind)
    (sym c.in-CloseCommand.is) c.close_command_is_enabled.ensures
