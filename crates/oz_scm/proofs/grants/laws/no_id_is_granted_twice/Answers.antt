use Rattle.oz_scm.specs.grants.laws.Journals.{fresh}
use Rattle.oz_scm.proofs.grants.laws.no_id_is_granted_twice.Goals as goal

pub returns : goal.returns
returns c = fresh
