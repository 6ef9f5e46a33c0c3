use Rattle.std.proofs.Common.{◌≡◌, ℕ, None, Some, max, refl, sym, ◌∙◌, ap, subst}
use Rattle.std.specs.declared.cmp.Ordering.{Ordering}
use Rattle.oz_reclaim.specs.sweep.Dates.{IsDate, local_of, since_in}
use Rattle.oz_reclaim.proofs.sweep_lemmas.Dates.{last_mark}
use Rattle.oz_reclaim.proofs.sweep_lemmas.Order.{same_order}
use Rattle.oz_rows.specs.declared.key.RowKey.{RowKey}
use Rattle.oz_sorted.specs.Sorted.{value_of}
use Rattle.oz_reclaim.proofs.sweep.dating.date_of.Goals as goal

pub returns-in-Some : goal.returns-in-Some
returns-in-Some c = λ all notes gone born first.
    let there = subst (λ (cmp : RowKey → RowKey → Ordering). Some c.in-Some.date.now ≡ value_of cmp c.args.dates.now.entries c.args.key.now) same_order c.in-Some.ensures in
    subst (IsDate all notes c.args.dates.now.entries c.args.key.now c.args.row.now c.in-Some.date.now) there refl

pub returns-in-Some-first_block : goal.returns-in-Some-first_block
returns-in-Some-first_block c = λ all notes gone born first.
    let none = subst (λ (cmp : RowKey → RowKey → Ordering). None ≡ value_of cmp c.args.dates.now.entries c.args.key.now) same_order c.in_default.ensures in
    let left : ℕ = c.left_at.result in
    subst (IsDate all notes c.args.dates.now.entries c.args.key.now c.args.row.now c.max.result) none (
      c.in-Some-first_block.first,
      sym c.in-Some-first_block.ensures,
      left,
      last_mark all notes c.args.gone.now c.in-Some-first_block.first left gone c.left_at.ensures,
      c.max.ensures ∙ ap (λ (made : ℕ). max made left) (c.made_at-made.ensures ∙ ap since_in (born (local_of c.args.key.now))),
    )
