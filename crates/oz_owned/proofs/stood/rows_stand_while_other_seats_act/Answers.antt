use Rattle.oz_owned.specs.laws.Standing.{has_stood_without}
use Rattle.oz_owned.proofs.stood.rows_stand_while_other_seats_act.Goals as goal

pub returns : goal.returns
returns c = λ opening loaded rows stripe story more legal none stood. has_stood_without opening loaded stripe story more rows legal none stood
