use Rattle.oz_reclaim.specs.Numbered.{AreNamesUpTo}
use Rattle.oz_reclaim.proofs.listing.snapshot_names.Given as goal

abbrev pub invariant-loop : goal.invariant-loop
invariant-loop g l = AreNamesUpTo (g.M.RowMap.rows l.rows) l.volume l.bucket l.last l.names.items
