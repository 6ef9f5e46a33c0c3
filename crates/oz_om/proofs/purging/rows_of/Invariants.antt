use Rattle.std.proofs.Common.{◌≡◌, map, take}
use Rattle.oz_rows.specs.RowMaps.{row_of}
use Rattle.oz_om.specs.Purging.{with_blocks}
use Rattle.oz_om.proofs.purging.rows_of.Given as goal

-- each key that was looked at has its blocks
abbrev pub invariant-loop-row : goal.invariant-loop-row
invariant-loop-row l = l.rows.items ≡ map (with_blocks (row_of l.tables.rows)) (take l.row-index l.found)
