use Rattle.oz_store.specs.granted.laws.Free.{free_allowed, free_unused, none_free_spent}
use Rattle.oz_store.proofs.granted.laws.what_is_free_is_unused.Goals as goal

pub returns-clause-unused : goal.returns-clause-unused
returns-clause-unused c = λ opening story stripe pipeline block fresh log legal free used. free_unused opening story legal stripe pipeline block free fresh log used

pub returns-clause-allowed : goal.returns-clause-allowed
returns-clause-allowed c = λ opening story stripe pipeline block exclude fresh log legal free allowed. free_allowed opening story legal stripe pipeline block free fresh log exclude allowed

pub returns-clause-spent : goal.returns-clause-spent
returns-clause-spent c = λ opening story stripe exclude none. none_free_spent opening story stripe exclude none
