use Rattle.oz_entries.specs.Node.{empty_node}
use Rattle.oz_entries.specs.laws.Journals.{one_node, not_both, one_fault, fault_within}
use Rattle.oz_entries.proofs.laws.bodies_make_one_node.Goals as goal

pub returns-clause-one_node : goal.returns-clause-one_node
returns-clause-one_node c = λ bodies. one_node bodies empty_node

pub returns-clause-not_both : goal.returns-clause-not_both
returns-clause-not_both c = λ bodies. not_both bodies empty_node

pub returns-clause-one_fault : goal.returns-clause-one_fault
returns-clause-one_fault c = λ bodies. one_fault bodies empty_node

pub returns-clause-within : goal.returns-clause-within
returns-clause-within c = λ bodies. fault_within bodies empty_node
