use Rattle.oz_world.specs.laws.Partial.{torn_whole, torn_none}
use Rattle.oz_world.proofs.laws.a_write_may_come_about_wholly_or_not_at_all.Goals as goal

pub returns-clause-wholly : goal.returns-clause-wholly
returns-clause-wholly c = torn_whole

pub returns-clause-not_at_all : goal.returns-clause-not_at_all
returns-clause-not_at_all c = torn_none
