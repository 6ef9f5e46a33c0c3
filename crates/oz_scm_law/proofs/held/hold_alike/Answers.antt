use Rattle.oz_scm_law.specs.Words.{AreAlike}
use Rattle.oz_scm_law.proofs.held.hold_alike.Goals as goal

pub returns : goal.returns
unfolding AreAlike
returns c = c.all_wanted.ensures
