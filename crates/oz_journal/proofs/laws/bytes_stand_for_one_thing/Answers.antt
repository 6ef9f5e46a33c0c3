use Rattle.oz_journal.proofs.Readings.{one_reading, one_damage, not_both, one_of_them}
use Rattle.oz_journal.proofs.laws.bytes_stand_for_one_thing.Goals as goal

pub returns-clause-one_reading : goal.returns-clause-one_reading
returns-clause-one_reading c = one_reading

pub returns-clause-one_damage : goal.returns-clause-one_damage
returns-clause-one_damage c = one_damage

pub returns-clause-not_both : goal.returns-clause-not_both
returns-clause-not_both c = not_both

pub returns-clause-one_of_them : goal.returns-clause-one_of_them
returns-clause-one_of_them c = one_of_them
