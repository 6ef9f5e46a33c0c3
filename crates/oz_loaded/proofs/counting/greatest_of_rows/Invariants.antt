use Rattle.std.proofs.Common.{◌≡◌, max, drop}
use Rattle.oz_loaded.specs.Counted.{greatest_in}
use Rattle.oz_loaded.proofs.counting.greatest_of_rows.Given as goal

abbrev pub invariant-loop-entry : goal.invariant-loop-entry
invariant-loop-entry l = max l.greatest (greatest_in (drop l.entry-index l.rows)) ≡ greatest_in l.rows
