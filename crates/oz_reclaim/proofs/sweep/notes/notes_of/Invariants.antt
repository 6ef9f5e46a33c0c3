use Rattle.std.proofs.Common.{◌≡◌, take}
use Rattle.oz_reclaim.specs.sweep.Notes.{notes_of}
use Rattle.oz_reclaim.proofs.sweep.notes.notes_of.Given as goal

abbrev pub invariant-loop-change : goal.invariant-loop-change
invariant-loop-change l = l.notes.items ≡ notes_of (take l.change-index l.changes)
