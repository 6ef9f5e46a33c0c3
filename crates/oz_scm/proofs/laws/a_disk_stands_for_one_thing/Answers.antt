use Rattle.oz_scm.proofs.Places.{one_thing, one_number, none_damaged, one_place}
use Rattle.oz_scm.proofs.laws.a_disk_stands_for_one_thing.Goals as goal

pub returns-clause-one_thing : goal.returns-clause-one_thing
returns-clause-one_thing c = one_thing c.bytes_stand_for_one_thing.ensures.one_reading c.bodies_make_one_thing.ensures.one_thing

pub returns-clause-one_number : goal.returns-clause-one_number
returns-clause-one_number c = one_number c.bytes_stand_for_one_thing.ensures.one_reading c.bodies_make_one_thing.ensures.one_thing

pub returns-clause-not_both : goal.returns-clause-not_both
returns-clause-not_both c given bytes made offset one damaged = none_damaged c.bytes_stand_for_one_thing.ensures.one_reading c.bytes_stand_for_one_thing.ensures.not_both c.bodies_make_one_thing.ensures.not_both bytes one.bodies one.found offset one.journal one.makes damaged

pub returns-clause-neither : goal.returns-clause-neither
returns-clause-neither c recorded bytes offset one damaged = none_damaged c.bytes_stand_for_one_thing.ensures.one_reading c.bytes_stand_for_one_thing.ensures.not_both c.bodies_make_one_thing.ensures.not_both bytes one.bodies _ offset one.journal one.makes damaged

pub returns-clause-one_fault : goal.returns-clause-one_fault
returns-clause-one_fault c = one_place c.bytes_stand_for_one_thing.ensures.one_reading c.bytes_stand_for_one_thing.ensures.one_damage c.bytes_stand_for_one_thing.ensures.not_both c.bodies_make_one_thing.ensures.one_fault
