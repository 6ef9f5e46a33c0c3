use Rattle.std.proofs.Common.{◌≡◌, None, cond, sym, subst}
use Rattle.std.specs.declared.cmp.Ordering.{Ordering}
use Rattle.oz_reclaim.specs.sweep.Filing.{ForgetsOf}
use Rattle.oz_reclaim.specs.sweep.Kept.{Sets}
use Rattle.oz_reclaim.proofs.sweep_lemmas.Order.{same_order}
use Rattle.oz_reclaim.proofs.sweep_lemmas.Sets.{forgotten_is_lost, gone_of}
use Rattle.oz_rows.specs.declared.key.RowKey.{RowKey}
use Rattle.oz_sorted.specs.Sorted.{is_same, value_of}
use Rattle.oz_reclaim.proofs.sweep.kept.forget.Goals as goal

pub returns-in_ok-of_bucket-in-Snapshot-clause-forgets : goal.returns-in_ok-of_bucket-in-Snapshot-clause-forgets
returns-in_ok-of_bucket-in-Snapshot-clause-forgets c =
    let old : Sets = c.args.sets.now.entries in
    let new : Sets = c.remove.new.self.entries in
    let key : RowKey = c.in_ok-of_bucket-in-Snapshot.of_bucket in
    let values = subst (λ (cmp : RowKey → RowKey → Ordering). (other : RowKey) → value_of cmp new other ≡ cond (is_same cmp key other) None (value_of cmp old other)) same_order c.remove.ensures.values in
    subst (λ (k : RowKey). ForgetsOf k old new) (sym c.in-Snapshot.is) (gone_of old new key c.in-Snapshot.volume c.in-Snapshot.bucket c.in-Snapshot.number c.in_ok-of_bucket-in-Snapshot.ensures values)

pub returns-in_ok-of_bucket-in-Snapshot-clause-fewer : goal.returns-in_ok-of_bucket-in-Snapshot-clause-fewer
returns-in_ok-of_bucket-in-Snapshot-clause-fewer c =
    forgotten_is_lost c.args.key.now c.args.sets.now.entries c.remove.new.self.entries (returns-in_ok-of_bucket-in-Snapshot-clause-forgets c)
