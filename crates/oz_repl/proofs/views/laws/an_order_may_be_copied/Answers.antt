use Rattle.oz_repl.specs.views.laws.Copying.{may_copy}
use Rattle.oz_repl.proofs.views.laws.an_order_may_be_copied.Goals as goal

pub returns : goal.returns
returns c = λ opening story number seat view order is due of_target runs. may_copy opening story number view is order seat due of_target runs
