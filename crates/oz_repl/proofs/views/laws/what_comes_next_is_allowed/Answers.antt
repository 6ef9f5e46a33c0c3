use Rattle.oz_repl.specs.views.laws.Shown.{allows}
use Rattle.oz_repl.proofs.views.laws.what_comes_next_is_allowed.Goals as goal

pub returns : goal.returns
returns c = λ opening story number view by is then. allows opening story number view is by then.allowed
