use Rattle.std.proofs.Common.{◌≡◌, ℕ, Option, None, Some, cond, sym, ◌∙◌, ap, subst}
use Rattle.std.specs.declared.cmp.Ordering.{Ordering}
use Rattle.oz_reclaim.specs.sweep.Dates.{date_in}
use Rattle.oz_reclaim.proofs.sweep_lemmas.Order.{same_order}
use Rattle.oz_rows.specs.declared.key.RowKey.{RowKey}
use Rattle.oz_rows.specs.RowMaps as rows
use Rattle.oz_sorted.specs.Sorted.{is_same, value_of}
use Rattle.oz_reclaim.proofs.sweep.dating.enter_date.Goals as goal

pub returns-in-Some-clause-dates : goal.returns-in-Some-clause-dates
returns-in-Some-clause-dates c = λ key.
    let values = subst (λ (cmp : RowKey → RowKey → Ordering). (other : RowKey) → value_of cmp c.insert.new.self.entries other ≡ cond (is_same cmp c.args.change.key other) (Some c.in-Some.date) (value_of cmp c.args.dates.now.entries other)) same_order c.insert.ensures.values in
    values key ∙ ap (λ (date : Option ℕ). cond (rows.is_same c.args.change.key key) date (date_in c.args.dates.now.entries key)) (sym c.in-Some.is)

pub returns-in-None-clause-dates : goal.returns-in-None-clause-dates
returns-in-None-clause-dates c = λ key.
    let values = subst (λ (cmp : RowKey → RowKey → Ordering). (other : RowKey) → value_of cmp c.remove.new.self.entries other ≡ cond (is_same cmp c.args.change.key other) None (value_of cmp c.args.dates.now.entries other)) same_order c.remove.ensures.values in
    values key ∙ ap (λ (date : Option ℕ). cond (rows.is_same c.args.change.key key) date (date_in c.args.dates.now.entries key)) (sym c.in-None.is)
