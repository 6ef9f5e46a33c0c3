use Rattle.std.proofs.Common.{◌≡◌, Some, cond, subst}
use Rattle.std.specs.declared.cmp.Ordering.{Ordering}
use Rattle.oz_rows.specs.declared.key.RowKey.{RowKey}
use Rattle.oz_sorted.specs.Sorted.{value_of, is_same}
use Rattle.oz_cache.proofs.RowOrder.{same_order}
use Rattle.oz_cache.proofs.cached_rows.CachedRows.put.Goals as goal

pub returns-clause-rows : goal.returns-clause-rows
returns-clause-rows c = subst
    (λ (cmp : RowKey → RowKey → Ordering). (other : RowKey) → value_of cmp c.insert.new.self.entries other ≡ cond (is_same cmp c.args.key other) (Some c.args.row) (value_of cmp c.args.self.now.rows.entries other))
    same_order c.insert.ensures.values
