use Rattle.oz_store.specs.laws.Found.{reached_is_found}
use Rattle.oz_store.proofs.laws.what_is_reached_stands_in_a_row.Goals as goal

pub returns : goal.returns
returns c = reached_is_found
