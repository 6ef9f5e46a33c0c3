use Rattle.oz_owned.specs.Stood.{StandAt}
use Rattle.oz_owned.specs.laws.Tables.{stand_at_front}
use Rattle.oz_om.specs.laws.Runs.{run_stood}
use Rattle.oz_om.proofs.Tables.{tables_stand}
use Rattle.oz_om.proofs.standing.a_stripes_tables_stood.Goals as goal

pub returns-clause-brought : goal.returns-clause-brought
returns-clause-brought c = λ opening loaded newest stripe flushed given story cache legal own listed stood low it. tables_stand opening loaded stripe
    flushed given story newest cache legal own listed stood low it

pub returns-clause-each : goal.returns-clause-each
returns-clause-each c = λ opening loaded rows stripe most story legal run. stand_at_front (StandAt opening loaded stripe) opening loaded stripe
    story rows legal (run_stood opening loaded story stripe rows legal run) most
