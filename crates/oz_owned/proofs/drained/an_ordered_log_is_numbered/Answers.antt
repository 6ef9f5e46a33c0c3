use Rattle.oz_owned.specs.laws.Numbered.{acked_by_member, acks_differ, numbers_apart, one_number}
use Rattle.oz_owned.proofs.drained.an_ordered_log_is_numbered.Goals as goal

pub returns-clause-apart : goal.returns-clause-apart
returns-clause-apart c = λ opening ordered. numbers_apart opening ordered

pub returns-clause-old : goal.returns-clause-old
returns-clause-old c = λ opening ordered. ordered.old

pub returns-clause-once : goal.returns-clause-once
returns-clause-once c = λ opening story number ordered legal. acks_differ opening number story legal ordered

pub returns-clause-members : goal.returns-clause-members
returns-clause-members c = λ opening story txn dn ordered legal there acked. acked_by_member opening story legal ordered txn there dn acked

pub returns-clause-one : goal.returns-clause-one
returns-clause-one c = λ opening story txn other ordered legal there beside same. one_number opening story legal ordered txn other there beside same
