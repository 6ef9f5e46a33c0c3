use Rattle.std.proofs.Common.{◌≡◌, None, Some, ap, subst}
use Rattle.std.specs.declared.cmp.Ordering.{Ordering}
use Rattle.oz_reclaim.specs.sweep.Dates.{or_zero}
use Rattle.oz_reclaim.proofs.sweep_lemmas.Order.{same_order}
use Rattle.oz_rows.specs.declared.key.RowKey.{RowKey}
use Rattle.oz_sorted.specs.Sorted.{value_of}
use Rattle.oz_reclaim.proofs.sweep.births.date_or_zero.Goals as goal

pub returns-in-Some : goal.returns-in-Some
returns-in-Some c = ap or_zero (subst (λ (cmp : RowKey → RowKey → Ordering). Some c.in-Some.date.now ≡ value_of cmp c.args.dates.now.entries c.args.key.now) same_order c.in-Some.ensures)

pub returns-in-None : goal.returns-in-None
returns-in-None c = ap or_zero (subst (λ (cmp : RowKey → RowKey → Ordering). None ≡ value_of cmp c.args.dates.now.entries c.args.key.now) same_order c.in-None.ensures)
