use Rattle.std.proofs.Common.{◌≡◌, length, take}
use Rattle.oz_reclaim.specs.sweep.Filing.{AreDates}
use Rattle.oz_reclaim.specs.sweep.Notes.{up_to}
use Rattle.oz_rows.specs.RowMaps.{row_of}
use Rattle.oz_reclaim.proofs.sweep.dating.date_changes.Given as goal

abbrev pub invariant-loop-change : goal.invariant-loop-change
invariant-loop-change l = record {
  dates : AreDates (row_of l.durable.rows) (up_to l.upto l.notes) l.dates.entries (take l.change-index l.changes) l.others.items;
  len : length l.others.items ≡ l.change-index;
}
