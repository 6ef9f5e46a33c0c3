use Rattle.oz_entries.specs.Node.{empty_node, is_in, names}
use Rattle.oz_node_events.specs.filled.laws.Rows.{none_have_slots, slots_after, slots_dropped, slots_made, slots_with_state, slots_without}
use Rattle.oz_node_events.proofs.filled.laws.blocks_have_slots_of_their_own.Goals as goal

pub returns-clause-none : goal.returns-clause-none
returns-clause-none c = none_have_slots

pub returns-clause-kept : goal.returns-clause-kept
returns-clause-kept c = λ node entry has follows. slots_after node entry has follows

pub returns-clause-state : goal.returns-clause-state
returns-clause-state c = λ node container state has. slots_with_state container state node has

pub returns-clause-applied : goal.returns-clause-applied
returns-clause-applied c = λ node txn has. slots_without txn.container txn.number (names txn) node has

pub returns-clause-dropped : goal.returns-clause-dropped
returns-clause-dropped c = λ node container has. slots_dropped container (is_in container) node has

pub returns-clause-made : goal.returns-clause-made
returns-clause-made c = λ bodies node makes. slots_made bodies empty_node node none_have_slots makes
