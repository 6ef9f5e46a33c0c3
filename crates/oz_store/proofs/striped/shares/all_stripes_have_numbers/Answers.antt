use Rattle.oz_store.specs.striped.laws.Requests.{after_has_all}
use Rattle.oz_store.specs.striped.laws.Rows.{standing_has_all}
use Rattle.oz_store.specs.striped.laws.Shares.{share_has_all}
use Rattle.oz_store.proofs.striped.shares.all_stripes_have_numbers.Goals as goal

pub returns-clause-standing : goal.returns-clause-standing
returns-clause-standing c = λ rows namespace stand. standing_has_all rows namespace stand

pub returns-clause-share : goal.returns-clause-share
returns-clause-share c = λ stripe namespace part of. share_has_all stripe namespace part of

pub returns-clause-left : goal.returns-clause-left
returns-clause-left c = λ namespace request reply all. after_has_all namespace request reply all
