use Rattle.std.proofs.Common.{◌+◌}
use Rattle.oz_loaded.specs.Walks.{StandBefore}
use Rattle.oz_loaded.proofs.walking.all_rows.Given as goal

abbrev pub invariant-loop-start : goal.invariant-loop-start
invariant-loop-start l = StandBefore (l.start-index + 1) l.tables.rows l.found.items
