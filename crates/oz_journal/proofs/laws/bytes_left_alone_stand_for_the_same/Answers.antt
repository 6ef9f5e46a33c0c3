use Rattle.oz_journal.proofs.Readings.{left_alone}
use Rattle.oz_journal.proofs.laws.bytes_left_alone_stand_for_the_same.Goals as goal

pub returns : goal.returns
returns c = left_alone
