use Rattle.oz_store.specs.granted.laws.Free.{free_new}
use Rattle.oz_store.proofs.granted.laws.what_is_free_is_new.Goals as goal

pub returns : goal.returns
returns c = λ opening story loaded now stripe pipeline block coherent old legal free twin key stands same. free_new opening story legal stripe pipeline block free loaded now coherent old twin key stands same
