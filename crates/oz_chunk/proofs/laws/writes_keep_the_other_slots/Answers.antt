use Rattle.oz_chunk.specs.laws.Keeping.{torn_keeps, keeps_then}
use Rattle.oz_chunk.proofs.laws.writes_keep_the_other_slots.Goals as goal

pub returns-clause-one : goal.returns-clause-one
returns-clause-one c = torn_keeps

pub returns-clause-many : goal.returns-clause-many
returns-clause-many c = keeps_then
