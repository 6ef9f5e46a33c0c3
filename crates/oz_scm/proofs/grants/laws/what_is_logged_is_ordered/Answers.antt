use Rattle.oz_scm.proofs.Ordered.{ordered}
use Rattle.oz_scm.proofs.grants.laws.what_is_logged_is_ordered.Goals as goal

pub returns : goal.returns
returns c = ordered
