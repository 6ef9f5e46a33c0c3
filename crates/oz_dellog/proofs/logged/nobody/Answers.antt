use Rattle.std.proofs.Common.{rules}
use Rattle.oz_dellog.specs.Logged.{nobody}
use Rattle.oz_dellog.proofs.logged.nobody.Goals as goal

pub returns : goal.returns
unfolding nobody
returns c = search rules
