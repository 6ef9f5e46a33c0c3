use Rattle.std.proofs.Common.{take}
use Rattle.oz_reclaim.specs.sweep.Filing.{AreLetGo}
use Rattle.oz_reclaim.specs.sweep.Notes.{up_to}
use Rattle.oz_rows.specs.RowMaps.{row_of}
use Rattle.oz_reclaim.proofs.sweep.marks.let_go.Given as goal

abbrev pub invariant-loop-note : goal.invariant-loop-note
invariant-loop-note l = AreLetGo (row_of l.durable.rows) (up_to l.upto (take l.note-index l.notes)) l.entries.items
