use Rattle.std.proofs.Common.{take}
use Rattle.oz_reclaim.specs.sweep.Filing.{Forgets}
use Rattle.oz_reclaim.specs.sweep.Notes.{up_to}
use Rattle.oz_reclaim.proofs.sweep.kept.forget_touched.Given as goal

abbrev pub invariant-loop-note : goal.invariant-loop-note
invariant-loop-note l = Forgets (up_to l.upto (take l.note-index l.notes)) l.fn.sets.entries l.sets.entries
