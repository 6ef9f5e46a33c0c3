use Rattle.std.proofs.Common.{drop}
use Rattle.oz_om_key.proofs.om_change_lemmas.Passed.{IsPassed}
use Rattle.oz_om_key.proofs.om_change.noting.is_held.Given as goal

abbrev pub invariant-loop-i : goal.invariant-loop-i
invariant-loop-i g l = IsPassed (g.M.RowMap.rows l.rows) l.of.volume.now l.of.bucket.now l.of.key.now l.block (drop l.i l.numbers) l.name
