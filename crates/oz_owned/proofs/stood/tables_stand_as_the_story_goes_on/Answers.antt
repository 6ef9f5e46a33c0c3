use Rattle.oz_owned.specs.Stood.{StandAt}
use Rattle.oz_owned.specs.laws.Standing.{tables_quiet, tables_still}
use Rattle.oz_owned.specs.laws.Tables.{stand_at_start, stand_before_decided}
use Rattle.oz_owned.proofs.stood.tables_stand_as_the_story_goes_on.Goals as goal

pub returns-clause-start : goal.returns-clause-start
returns-clause-start c = λ opening loaded stripe most at. stand_at_start (StandAt opening loaded stripe) opening loaded stripe most at

pub returns-clause-others : goal.returns-clause-others
returns-clause-others c = λ opening loaded tables stripe most story event legal none it. tables_still stripe event none opening story legal
    loaded most tables it

pub returns-clause-decides : goal.returns-clause-decides
returns-clause-decides c = λ opening loaded tables stripe most index story event is above it. stand_before_decided (StandAt opening loaded stripe)
    opening loaded stripe story event most tables index is above it

pub returns-clause-writes_nothing : goal.returns-clause-writes_nothing
returns-clause-writes_nothing c = λ opening loaded tables stripe most index story id reply legal at it. tables_quiet opening loaded tables stripe
    most index story id reply legal at it
