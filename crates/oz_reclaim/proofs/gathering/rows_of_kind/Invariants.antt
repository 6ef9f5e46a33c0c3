use Rattle.oz_reclaim.proofs.OneKind.{Gathering}
use Rattle.oz_rows.specs.Rows.{kind_of}
use Rattle.oz_reclaim.proofs.gathering.rows_of_kind.Given as goal

abbrev pub invariant-loop : goal.invariant-loop
invariant-loop g l = Gathering (g.M.RowMap.rows l.rows) (kind_of l.start) l.last l.found.items
