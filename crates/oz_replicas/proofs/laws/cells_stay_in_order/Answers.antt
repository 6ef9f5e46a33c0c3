use Rattle.oz_replicas.proofs.Listed.{more_in_order, none_in_order}
use Rattle.oz_replicas.proofs.laws.cells_stay_in_order.Goals as goal

pub returns-clause-none : goal.returns-clause-none
returns-clause-none g c = none_in_order

pub returns-clause-pushed : goal.returns-clause-pushed
returns-clause-pushed g c cells cell are number = more_in_order cells cell are number
