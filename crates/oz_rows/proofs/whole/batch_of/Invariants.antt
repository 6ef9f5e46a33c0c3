use Rattle.std.proofs.Common.{◌≡◌, ◌++◌, length}
use Rattle.oz_rows.specs.Operations.{AreOperations, batch_bytes}
use Rattle.oz_rows.proofs.whole.batch_of.Given as goal

abbrev pub invariant-loop-rest : goal.invariant-loop-rest
invariant-loop-rest l = AreOperations l.items.items × (l.bytes ≡ batch_bytes l.items.items ++ l.rest)

abbrev pub decreases-loop-rest : goal.decreases-loop-rest
decreases-loop-rest l = length l.rest
