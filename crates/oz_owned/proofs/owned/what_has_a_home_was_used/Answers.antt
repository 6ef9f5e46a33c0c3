use Rattle.oz_owned.specs.laws.Homes.{home_is_used, own_is_used}
use Rattle.oz_owned.proofs.owned.what_has_a_home_was_used.Goals as goal

pub returns-clause-home : goal.returns-clause-home
returns-clause-home c = λ all namespace block stands fit home. home_is_used all namespace block stands fit home

pub returns-clause-own : goal.returns-clause-own
returns-clause-own c = λ opening bytes loaded stripe front granted block store fit handed own. own_is_used opening bytes loaded stripe front granted
    block store fit handed own
