use Rattle.std.proofs.Common.{sym, subst}
use Rattle.oz_command.specs.declared.command.Command.{Command}
use Rattle.oz_core.specs.Due.{ManagerHadStopped}
use Rattle.oz_asker.specs.telling.laws.Stopped.{stopped_due}
use Rattle.oz_asker.proofs.telling.laws.what_is_told_of_the_manager_is_due.Goals as goal

pub returns-clause-stopped : goal.returns-clause-stopped
returns-clause-stopped c opening bytes script story line id said stills may = stopped_due story line line.command id may.asked may.cause

pub returns-clause-drain : goal.returns-clause-drain
returns-clause-drain c opening bytes script story line said stills drains may =
    subst (λ (command : Command). ManagerHadStopped story line command) (sym drains) may.cause
