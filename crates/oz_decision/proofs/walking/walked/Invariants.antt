use Rattle.std.proofs.Common.{◌≡◌, ◌-◌, None}
use Rattle.oz_decision.specs.laws.Walks.{Walked}
use Rattle.oz_decision.proofs.walking.walked.Given as goal

abbrev pub invariant-loop : goal.invariant-loop
invariant-loop g l = g.M.RowMap.rows l.rows l.from ≡ None → Walked (g.M.RowMap.rows l.rows) l.from l.to l.found.items (l.count - l.counter)
