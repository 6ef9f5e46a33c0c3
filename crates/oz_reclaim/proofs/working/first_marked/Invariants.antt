use Rattle.oz_reclaim.proofs.Firsts.{Passed}
use Rattle.oz_reclaim.proofs.working.first_marked.Given as goal

abbrev pub invariant-loop : goal.invariant-loop
invariant-loop g l = Passed (g.M.RowMap.rows l.rows) l.last
