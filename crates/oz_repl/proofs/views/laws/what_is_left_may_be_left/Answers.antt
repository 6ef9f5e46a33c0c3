use Rattle.oz_repl.specs.views.laws.Copying.{may_leave}
use Rattle.oz_repl.proofs.views.laws.what_is_left_may_be_left.Goals as goal

pub returns : goal.returns
returns c = λ opening story number view id is each. may_leave opening story number view is id each
