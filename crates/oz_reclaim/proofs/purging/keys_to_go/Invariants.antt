use Rattle.std.proofs.Common.{IsTrue, take}
use Rattle.oz_effects.specs.changes.Steps.{holds}
use Rattle.oz_rows.specs.Counts.{AllRise}
use Rattle.oz_reclaim.proofs.Removing.{Chosen}
use Rattle.oz_reclaim.proofs.purging.keys_to_go.Given as goal

abbrev pub invariant-loop-row : goal.invariant-loop-row
invariant-loop-row g l = Chosen (g.M.RowMap.rows l.rows) (holds l.shown) l.volume (take l.row-index l.named) l.keys.items × (IsTrue l.rise → AllRise l.keys.items)
