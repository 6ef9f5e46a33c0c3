use Rattle.std.proofs.Common.{◌≡◌, take}
use Rattle.oz_loaded.specs.Counted.{left_in}
use Rattle.oz_loaded.proofs.counting.left_in.Given as goal

abbrev pub invariant-loop-entry : goal.invariant-loop-entry
invariant-loop-entry l = l.left.items ≡ left_in (take l.entry-index l.rows)
