use Rattle.oz_chunk.proofs.Lowest.{IsLowest}
use Rattle.oz_chunk.proofs.loading.lowest_past.Given as goal

abbrev pub invariant-loop-slot : goal.invariant-loop-slot
invariant-loop-slot l = IsLowest l.held l.size l.slot-index l.lowest
