use Rattle.oz_reclaim.proofs.NotMade.{IsSoFar}
use Rattle.oz_reclaim.proofs.making.last_number.Given as goal

abbrev pub invariant-loop : goal.invariant-loop
invariant-loop g l = IsSoFar (g.M.RowMap.rows l.rows) l.volume l.bucket l.last
