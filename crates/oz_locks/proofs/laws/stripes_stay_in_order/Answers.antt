use Rattle.oz_locks.proofs.Listed.{more_in_order, front_in_order, last_in_order}
use Rattle.oz_locks.proofs.laws.stripes_stay_in_order.Goals as goal

pub returns-clause-pushed : goal.returns-clause-pushed
returns-clause-pushed g c stripes stripe are number rests = more_in_order _ _ _ stripes stripe are number rests

pub returns-clause-front : goal.returns-clause-front
returns-clause-front g c stripes rest are = front_in_order _ _ _ stripes rest are

pub returns-clause-last : goal.returns-clause-last
returns-clause-last g c stripes stripe are = last_in_order _ _ _ stripes stripe are
