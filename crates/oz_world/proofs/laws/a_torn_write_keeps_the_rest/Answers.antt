use Rattle.oz_world.specs.laws.Partial.{torn_keeps_before, torn_keeps_past}
use Rattle.oz_world.proofs.laws.a_torn_write_keeps_the_rest.Goals as goal

pub returns-clause-before_it : goal.returns-clause-before_it
returns-clause-before_it c = torn_keeps_before

pub returns-clause-past_it : goal.returns-clause-past_it
returns-clause-past_it c = torn_keeps_past
