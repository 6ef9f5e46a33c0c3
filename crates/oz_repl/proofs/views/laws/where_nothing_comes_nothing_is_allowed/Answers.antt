use Rattle.oz_repl.specs.views.laws.Shown.{comes_next}
use Rattle.oz_repl.proofs.views.laws.where_nothing_comes_nothing_is_allowed.Goals as goal

pub returns : goal.returns
returns c = λ opening story number view is none by state closing leads allowed. none by closing (comes_next opening story number view is by state leads allowed)
