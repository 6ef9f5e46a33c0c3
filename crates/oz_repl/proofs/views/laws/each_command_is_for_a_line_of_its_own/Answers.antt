use Rattle.oz_repl.specs.views.laws.Commanded.{for_none, for_one_more, for_still}
use Rattle.oz_repl.proofs.views.laws.each_command_is_for_a_line_of_its_own.Goals as goal

pub returns-clause-none : goal.returns-clause-none
returns-clause-none c = for_none

pub returns-clause-still : goal.returns-clause-still
returns-clause-still c = λ script dn last story event for none. for_still script dn last story event for none

pub returns-clause-more : goal.returns-clause-more
returns-clause-more c = λ script dn last story event command work for is within above. for_one_more script dn last story event for command is work within above
