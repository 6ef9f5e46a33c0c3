use Rattle.oz_scm.specs.grants.laws.Journals.{one_thing, not_both, one_fault, within}
use Rattle.oz_scm.proofs.grants.laws.bodies_make_one_thing.Goals as goal

pub returns-clause-one_thing : goal.returns-clause-one_thing
returns-clause-one_thing c = one_thing

pub returns-clause-not_both : goal.returns-clause-not_both
returns-clause-not_both c = not_both

pub returns-clause-one_fault : goal.returns-clause-one_fault
returns-clause-one_fault c = one_fault

pub returns-clause-within : goal.returns-clause-within
returns-clause-within c = within
