use Rattle.oz_scm_law.specs.Words.{HoldsNothing}
use Rattle.oz_scm_law.proofs.held.holds_nothing.Goals as goal

pub returns : goal.returns
unfolding HoldsNothing
returns c = c.all_wanted.ensures
