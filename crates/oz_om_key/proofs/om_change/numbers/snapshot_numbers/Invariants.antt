use Rattle.oz_om_key.proofs.om_change_lemmas.Walked.{UpTo}
use Rattle.oz_om_key.proofs.om_change.numbers.snapshot_numbers.Given as goal

abbrev pub invariant-loop : goal.invariant-loop
invariant-loop g l = UpTo (g.M.RowMap.rows l.rows) l.volume l.bucket l.last l.numbers.items
