use Rattle.oz_chunk.specs.Taken.{AllTakenBelow}
use Rattle.oz_chunk.proofs.table.lowest_free.Given as goal

abbrev pub invariant-loop-slot : goal.invariant-loop-slot
invariant-loop-slot l = AllTakenBelow l.slot l.taken
