use Rattle.std.proofs.Common.{◌≤◌, length}
use Rattle.oz_effects.specs.changes.Steps.{holds}
use Rattle.oz_reclaim.proofs.FreeRows.{Walk}
use Rattle.oz_reclaim.proofs.finding.first_free.Given as goal

abbrev pub invariant-loop : goal.invariant-loop
invariant-loop g l = Walk (g.M.RowMap.rows l.rows) (holds l.used) l.last l.keys.items × (length l.keys.items ≤ l.most)
