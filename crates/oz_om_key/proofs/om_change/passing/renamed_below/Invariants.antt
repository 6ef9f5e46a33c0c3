use Rattle.std.proofs.Common.{drop}
use Rattle.std.specs.List.{AllByRecursion}
use Rattle.oz_om_key.specs.om_change.Passing.{HasNoneRenamed}
use Rattle.oz_om_key.proofs.om_change.passing.renamed_below.Given as goal

abbrev pub invariant-loop-i : goal.invariant-loop-i
invariant-loop-i g l = AllByRecursion (HasNoneRenamed (g.M.RowMap.rows l.rows) l.of.volume.now l.of.bucket.now l.span) (drop l.i l.numbers)
