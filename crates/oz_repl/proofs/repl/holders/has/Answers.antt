use Rattle.std.proofs.Common.{◌∙◌}
use Rattle.oz_repl.proofs.Search.{found}
use Rattle.oz_repl.proofs.repl.holders.has.Goals as goal

pub returns : goal.returns
returns c = c.is_ok.ensures.value ∙ found c.args.locals.now c.args.local c.binary_search.result c.requires c.binary_search.ensures.position
