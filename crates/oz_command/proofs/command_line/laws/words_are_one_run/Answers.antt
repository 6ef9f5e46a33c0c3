use Rattle.oz_command.proofs.command_line_lemmas.Exact.{one_run}
use Rattle.oz_command.proofs.command_line.laws.words_are_one_run.Goals as goal

pub returns-clause-nodes : goal.returns-clause-nodes
returns-clause-nodes c words nodes workers others more run other = (one_run words nodes workers others more run other).0

pub returns-clause-workers : goal.returns-clause-workers
returns-clause-workers c words nodes workers others more run other = (one_run words nodes workers others more run other).1
