use Rattle.oz_loaded.proofs.Whole.{there, same}
use Rattle.oz_loaded.proofs.laws.the_parts_are_the_whole.Goals as goal

pub returns-clause-there : goal.returns-clause-there
returns-clause-there c bodies unseated this key has = there this.all (c.a_batch_makes_a_body.ensures.fit bodies this.all unseated.last_index this.builds) key has

pub returns-clause-same : goal.returns-clause-same
returns-clause-same c bodies unseated this key part is = same this.all unseated.last_index unseated.parts this.parts key part is
