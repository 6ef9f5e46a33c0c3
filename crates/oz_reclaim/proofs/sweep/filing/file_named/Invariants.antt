use Rattle.std.proofs.Common.{◌≡◌, take, true}
use Rattle.oz_reclaim.specs.sweep.Filing.{Files}
use Rattle.oz_reclaim.specs.sweep.Kept.{AreRight}
use Rattle.oz_reclaim.specs.sweep.Notes.{names, up_to}
use Rattle.oz_rows.specs.declared.key.RowKey.{RowKey}
use Rattle.oz_rows.specs.RowMaps.{row_of}
use Rattle.oz_reclaim.proofs.sweep.filing.file_named.Given as goal

abbrev pub invariant-loop-note : goal.invariant-loop-note
invariant-loop-note l = record {
  still : AreRight (row_of l.durable.rows) l.fn.sets.entries → AreRight (row_of l.durable.rows) l.sets.entries;
  files : AreRight (row_of l.durable.rows) l.fn.sets.entries
      → Files (row_of l.durable.rows) (λ (key : RowKey). names (up_to l.upto (take l.note-index l.notes)) key ≡ true) l.fn.changes.items l.changes.items;
}
