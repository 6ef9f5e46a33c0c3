use Rattle.oz_repl.specs.views.laws.Logged.{logged_and_held}
use Rattle.oz_repl.proofs.views.laws.logged_and_held.Goals as goal

pub returns : goal.returns
returns c = logged_and_held
