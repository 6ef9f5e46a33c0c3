use Rattle.std.proofs.Common.{◌≡◌, take}
use Rattle.oz_loaded.specs.standing.Made.{bucket_shown, filled}
use Rattle.oz_loaded.proofs.standing.buckets.in_rows.Given as goal

abbrev pub invariant-loop-entry : goal.invariant-loop-entry
invariant-loop-entry l = l.made ≡ filled (bucket_shown l.tables.rows) (take l.entry-index l.rows)
