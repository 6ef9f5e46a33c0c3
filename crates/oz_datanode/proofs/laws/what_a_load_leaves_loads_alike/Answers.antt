use Rattle.oz_datanode.proofs.Outcomes.{both_alike, damage_alike, blocks_alike}
use Rattle.oz_datanode.proofs.laws.what_a_load_leaves_loads_alike.Goals as goal

pub returns-clause-node : goal.returns-clause-node
returns-clause-node c = both_alike c.bytes_left_alone_stand_for_the_same.ensures

pub returns-clause-damaged : goal.returns-clause-damaged
returns-clause-damaged c = damage_alike c.bytes_left_alone_stand_for_the_same.ensures

pub returns-clause-blocks : goal.returns-clause-blocks
returns-clause-blocks c = blocks_alike c.bytes_left_alone_stand_for_the_same.ensures
