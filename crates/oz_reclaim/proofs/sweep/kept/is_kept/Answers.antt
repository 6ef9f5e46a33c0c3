use Rattle.std.proofs.Common.{◌≡◌, Some, cond, sym, subst}
use Rattle.std.specs.declared.cmp.Ordering.{Ordering}
use Rattle.oz_reclaim.specs.sweep.Kept.{AreRight, Sets}
use Rattle.oz_reclaim.proofs.sweep_lemmas.Order.{same_order}
use Rattle.oz_reclaim.proofs.sweep_lemmas.Sets.{held_is, one_more_set}
use Rattle.oz_rows.specs.declared.key.RowKey.{RowKey}
use Rattle.oz_rows.specs.RowMaps.{row_of}
use Rattle.oz_sorted.specs.Sorted.{is_same, value_of}
use Rattle.oz_reclaim.proofs.sweep.kept.is_kept.Goals as goal

pub returns-in-Some-clause-told : goal.returns-in-Some-clause-told
returns-in-Some-clause-told c =
    let sets : Sets = c.args.sets.now.entries in
    let key : RowKey = c.in_ok-of_bucket.of_bucket in
    let there = subst (λ (cmp : RowKey → RowKey → Ordering). Some c.in-Some.blocks.now ≡ value_of cmp sets key) same_order c.in-Some.ensures in
    held_is (row_of c.args.durable.now.rows) sets c.args.volume.now c.args.bucket.now key c.in-Some.blocks.now c.args.block.now c.is_held.result c.in_ok-of_bucket.ensures there c.is_held.ensures

pub returns-clause-still : goal.returns-clause-still
returns-clause-still c = λ right.
    let all = row_of c.args.durable.now.rows in
    let old : Sets = c.reserve.new.self.entries in
    let new : Sets = c.insert.new.self.entries in
    let key : RowKey = c.in_ok-of_bucket.of_bucket in
    let set = c.in_ok-blocks.blocks in
    let values = subst (λ (cmp : RowKey → RowKey → Ordering). (other : RowKey) → value_of cmp new other ≡ cond (is_same cmp key other) (Some set) (value_of cmp old other)) same_order c.insert.ensures.values in
    one_more_set all old new key c.args.volume.now c.args.bucket.now set c.in_ok-of_bucket.ensures c.in_ok-blocks.ensures values (subst (AreRight all) (sym c.in_ok-reserve.ensures.entries) right)
