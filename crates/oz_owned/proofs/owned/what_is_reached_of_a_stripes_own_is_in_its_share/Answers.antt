use Rattle.oz_owned.specs.laws.Owned.{kept_is_share, own_in_share}
use Rattle.oz_owned.proofs.owned.what_is_reached_of_a_stripes_own_is_in_its_share.Goals as goal

pub returns-clause-place : goal.returns-clause-place
returns-clause-place c = λ opening bytes loaded story stripe place block store legal own. own_in_share opening bytes loaded store story legal stripe
    place block own

pub returns-clause-kept : goal.returns-clause-kept
returns-clause-kept c = λ opening bytes loaded story stripe place most block store legal own kept. kept_is_share opening bytes loaded store story
    legal stripe place most block own kept
