use Rattle.std.proofs.Common.{◌≡◌, take}
use Rattle.oz_loaded.specs.standing.Made.{snapshots_in_order}
use Rattle.oz_loaded.proofs.standing.entries.snapshots_of.Given as goal

abbrev pub invariant-loop-entry : goal.invariant-loop-entry
invariant-loop-entry l = l.made.items ≡ snapshots_in_order l.kept (take l.entry-index l.rows)
