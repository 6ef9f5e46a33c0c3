use Rattle.oz_reclaim.specs.Numbered.{NoneUpTo}
use Rattle.oz_reclaim.proofs.naming.number_named.Given as goal

abbrev pub invariant-loop : goal.invariant-loop
invariant-loop g l = NoneUpTo (g.M.RowMap.rows l.rows) l.volume l.bucket l.name l.last
