use Rattle.oz_store.specs.striped.laws.Rows.{left_as_it_was}
use Rattle.oz_store.proofs.striped.shares.rows_that_stand_for_both.Goals as goal

pub returns : goal.returns
returns c = λ rows part request reply one other. left_as_it_was rows part request reply one other
