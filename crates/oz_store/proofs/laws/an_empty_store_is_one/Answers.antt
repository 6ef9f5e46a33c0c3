use Rattle.oz_store.proofs.Empty.{empty_is_store}
use Rattle.oz_store.proofs.laws.an_empty_store_is_one.Goals as goal

pub returns-clause-store : goal.returns-clause-store
returns-clause-store c = λ bytes. empty_is_store c.no_rows_stand_for_nothing.ensures bytes
