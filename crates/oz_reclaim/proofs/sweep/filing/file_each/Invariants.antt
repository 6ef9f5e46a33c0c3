use Rattle.std.proofs.Common.{take}
use Rattle.oz_reclaim.specs.sweep.Filing.{Files, IsAmong}
use Rattle.oz_reclaim.specs.sweep.Kept.{AreRight}
use Rattle.oz_rows.specs.RowMaps.{row_of}
use Rattle.oz_reclaim.proofs.sweep.filing.file_each.Given as goal

abbrev pub invariant-loop-entry : goal.invariant-loop-entry
invariant-loop-entry l = record {
  still : AreRight (row_of l.durable.rows) l.fn.sets.entries → AreRight (row_of l.durable.rows) l.sets.entries;
  files : AreRight (row_of l.durable.rows) l.fn.sets.entries
      → Files (row_of l.durable.rows) (IsAmong (take l.entry-index l.found)) l.fn.changes.items l.changes.items;
}
