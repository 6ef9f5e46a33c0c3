use Rattle.oz_owned.specs.Stood.{StandAt}
use Rattle.oz_owned.specs.laws.Standing.{stands_once}
use Rattle.oz_owned.specs.laws.Tables.{stand_at_front}
use Rattle.oz_owned.proofs.stood.rows_that_stood_are_one.Goals as goal

pub returns-clause-end : goal.returns-clause-end
returns-clause-end c = λ opening loaded rows other stripe story listed are stood another. stands_once opening loaded stripe story rows listed are
    stood other another

pub returns-clause-fronts : goal.returns-clause-fronts
returns-clause-fronts c = λ opening loaded rows stripe most story legal stood. stand_at_front (StandAt opening loaded stripe) opening loaded stripe
    story rows legal stood most
