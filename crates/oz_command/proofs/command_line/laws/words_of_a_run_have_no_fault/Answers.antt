use Rattle.oz_command.proofs.command_line_lemmas.Exact.{run_has_no_fault}
use Rattle.oz_command.proofs.command_line.laws.words_of_a_run_have_no_fault.Goals as goal

pub returns : goal.returns
returns c = run_has_no_fault
