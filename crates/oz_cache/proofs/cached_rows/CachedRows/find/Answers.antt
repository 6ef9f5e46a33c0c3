use Rattle.oz_cache.proofs.RowOrder.{same_order}
use Rattle.oz_cache.proofs.cached_rows.CachedRows.find.Goals as goal

pub returns : goal.returns
returns c = rw (← same_order) c.get.ensures
