use Rattle.std.proofs.Common.{◌≡◌, ℕ, take}
use Rattle.std.specs.Ordering.{nat_cmp}
use Rattle.oz_reclaim.specs.sweep.Dates.{births}
use Rattle.oz_reclaim.specs.sweep.Notes.{up_to}
use Rattle.oz_sorted.specs.Sorted.{value_of}
use Rattle.oz_reclaim.proofs.sweep.births.births.Given as goal

abbrev pub invariant-loop-note : goal.invariant-loop-note
invariant-loop-note l = (local : ℕ) → value_of nat_cmp l.births.entries local ≡ births l.dates.entries (up_to l.upto (take l.note-index l.notes)) local
