use Rattle.oz_chunk.proofs.Holding.{HoldsSome}
use Rattle.oz_chunk.proofs.loading.hold_all.Given as goal

abbrev pub invariant-loop-slot : goal.invariant-loop-slot
invariant-loop-slot l = HoldsSome l.held l.slot-index l.table
