use Rattle.oz_repl.specs.views.laws.Later.{deleted_or_not}
use Rattle.oz_repl.proofs.views.laws.deleted_or_not_empty.Goals as goal

pub returns : goal.returns
returns c = deleted_or_not
