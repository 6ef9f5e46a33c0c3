use Rattle.oz_block.proofs.Places.{one_node, not_both, one_place}
use Rattle.oz_block.proofs.laws.a_disk_stands_for_one_node.Goals as goal

pub returns-clause-one_node : goal.returns-clause-one_node
returns-clause-one_node c = one_node c.bytes_stand_for_one_thing.ensures.one_reading c.bodies_make_one_node.ensures.one_node

pub returns-clause-not_both : goal.returns-clause-not_both
returns-clause-not_both c = not_both c.bytes_stand_for_one_thing.ensures.one_reading c.bytes_stand_for_one_thing.ensures.not_both c.bodies_make_one_node.ensures.not_both

pub returns-clause-one_fault : goal.returns-clause-one_fault
returns-clause-one_fault c = one_place c.bytes_stand_for_one_thing.ensures.one_reading c.bytes_stand_for_one_thing.ensures.one_damage c.bytes_stand_for_one_thing.ensures.not_both c.bodies_make_one_node.ensures.one_fault
