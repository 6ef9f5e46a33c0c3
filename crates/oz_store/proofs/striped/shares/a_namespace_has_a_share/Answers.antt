use Rattle.oz_store.specs.striped.laws.Shares.{one_share, share_is_there}
use Rattle.oz_store.proofs.striped.shares.a_namespace_has_a_share.Goals as goal

pub returns-clause-there : goal.returns-clause-there
returns-clause-there c = λ stripe namespace. share_is_there stripe namespace

pub returns-clause-one : goal.returns-clause-one
returns-clause-one c = λ stripe namespace part other this that. one_share stripe namespace part other this that
