use Rattle.std.proofs.Common.{take}
use Rattle.oz_reclaim.specs.sweep.Filing.{Files, IsTouched}
use Rattle.oz_reclaim.specs.sweep.Kept.{AreRight}
use Rattle.oz_reclaim.specs.sweep.Notes.{up_to}
use Rattle.oz_rows.specs.RowMaps.{row_of}
use Rattle.oz_reclaim.proofs.sweep.filing.file_touched.Given as goal

abbrev pub invariant-loop-i : goal.invariant-loop-i
invariant-loop-i l = record {
  still : AreRight (row_of l.durable.rows) l.fn.sets.entries → AreRight (row_of l.durable.rows) l.sets.entries;
  files : AreRight (row_of l.durable.rows) l.fn.sets.entries
      → Files (row_of l.durable.rows) (IsTouched (row_of l.durable.rows) (up_to l.upto (take l.i l.notes))) l.fn.changes.items l.changes.items;
}
