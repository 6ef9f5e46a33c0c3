use Rattle.std.proofs.Common.{MatchOption, subst}
use Rattle.std.specs.declared.cmp.Ordering.{Ordering}
use Rattle.oz_rows.specs.declared.key.RowKey.{RowKey}
use Rattle.oz_sorted.specs.Sorted.{value_of, IsNext, HasNoNext}
use Rattle.oz_cache.proofs.RowOrder.{same_order}
use Rattle.oz_cache.proofs.cached_rows.CachedRows.next.Goals as goal

pub returns : goal.returns
returns c = subst
    (λ (cmp : RowKey → RowKey → Ordering). MatchOption c.next.result (HasNoNext cmp (value_of cmp c.args.self.now.rows.entries) c.args.key.now) (λ at. IsNext cmp (value_of cmp c.args.self.now.rows.entries) c.args.key.now at.0.now at.1.now))
    same_order c.next.ensures.next
