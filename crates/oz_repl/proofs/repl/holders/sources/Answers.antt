use Rattle.std.proofs.Common.{arith}
use Rattle.oz_repl.proofs.Tests.{by_place}
use Rattle.oz_repl.proofs.repl.holders.sources.Goals as goal

pub returns : goal.returns
returns c = by_place c.args.view.now c.args.local c.is_holder.result c.is_holder-2.result c.is_holder-3.result
    (omega arith) c.is_holder.ensures c.is_holder-2.ensures c.is_holder-3.ensures
