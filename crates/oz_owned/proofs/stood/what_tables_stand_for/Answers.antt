use Rattle.oz_owned.specs.Stood.{StandAt}
use Rattle.oz_owned.specs.laws.Standing.{handed_kept, unreached_front, unreached_kept}
use Rattle.oz_owned.specs.laws.Tables.{front_stood}
use Rattle.oz_owned.proofs.stood.what_tables_stand_for.Goals as goal

pub returns-clause-place : goal.returns-clause-place
returns-clause-place c = λ opening loaded tables stripe most story it. front_stood (StandAt opening loaded stripe) opening loaded stripe story most
    tables it

pub returns-clause-granted : goal.returns-clause-granted
returns-clause-granted c = λ opening loaded tables stripe most story block it handed. handed_kept opening loaded tables stripe most story block it handed

pub returns-clause-unreached : goal.returns-clause-unreached
returns-clause-unreached c = λ opening bytes loaded tables stripe most story block store legal it own unreached. unreached_front opening bytes loaded
    story stripe most tables block store legal it own unreached

pub returns-clause-unkept : goal.returns-clause-unkept
returns-clause-unkept c = λ opening bytes loaded tables stripe most story block store legal it own unreached. unreached_kept opening bytes loaded
    story stripe most tables block store legal it own unreached
