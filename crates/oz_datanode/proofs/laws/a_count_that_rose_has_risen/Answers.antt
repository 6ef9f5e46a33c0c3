use Rattle.oz_datanode.specs.laws.GoingOn.{rose_since, rose_until}
use Rattle.oz_datanode.proofs.laws.a_count_that_rose_has_risen.Goals as goal

pub returns-clause-since : goal.returns-clause-since
returns-clause-since c = rose_since

pub returns-clause-until : goal.returns-clause-until
returns-clause-until c = rose_until
