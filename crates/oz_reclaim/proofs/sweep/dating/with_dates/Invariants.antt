use Rattle.std.proofs.Common.{◌≡◌, map}
use Rattle.oz_reclaim.specs.sweep.Dates.{date_in, or_zero}
use Rattle.oz_rows.specs.declared.key.RowKey.{RowKey}
use Rattle.oz_reclaim.proofs.sweep.dating.with_dates.Given as goal

abbrev pub invariant-loop-key : goal.invariant-loop-key
invariant-loop-key l = l.rows.items ≡ map (λ (key : RowKey). (key, or_zero (date_in l.dates.entries key))) l.yielded
