use Rattle.oz_datanode.proofs.Outcomes.{both_one_node, one_damage, both_not_damaged, both_or_damaged}
use Rattle.oz_datanode.proofs.laws.what_loads_is_not_damaged.Goals as goal

pub returns-clause-one_node : goal.returns-clause-one_node
returns-clause-one_node c = both_one_node c.a_disk_stands_for_one_node.ensures.one_node

pub returns-clause-one_fault : goal.returns-clause-one_fault
returns-clause-one_fault c = one_damage c.a_disk_stands_for_one_node.ensures.one_node c.a_disk_stands_for_one_node.ensures.not_both c.a_disk_stands_for_one_node.ensures.one_fault

pub returns-clause-not_both : goal.returns-clause-not_both
returns-clause-not_both c = both_not_damaged c.a_disk_stands_for_one_node.ensures.one_node c.a_disk_stands_for_one_node.ensures.not_both

pub returns-clause-one_of_them : goal.returns-clause-one_of_them
returns-clause-one_of_them c = both_or_damaged
