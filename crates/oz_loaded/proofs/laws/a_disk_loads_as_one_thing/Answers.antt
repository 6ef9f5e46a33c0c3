use Rattle.oz_loaded.proofs.Places.{one_thing, not_both, one_place}
use Rattle.oz_loaded.proofs.laws.a_disk_loads_as_one_thing.Goals as goal

pub returns-clause-one : goal.returns-clause-one
returns-clause-one c = one_thing c.bytes_stand_for_one_thing.ensures.one_reading c.bodies_make_one_thing.ensures.one_table

pub returns-clause-not_both : goal.returns-clause-not_both
returns-clause-not_both c = not_both c.bytes_stand_for_one_thing.ensures.one_reading c.bytes_stand_for_one_thing.ensures.not_both c.bodies_make_one_thing.ensures.not_both

pub returns-clause-one_fault : goal.returns-clause-one_fault
returns-clause-one_fault c = one_place c.bytes_stand_for_one_thing.ensures.one_reading c.bytes_stand_for_one_thing.ensures.one_damage c.bytes_stand_for_one_thing.ensures.not_both c.bodies_make_one_thing.ensures.one_fault
