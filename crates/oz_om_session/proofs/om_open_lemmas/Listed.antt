-- The newest rows of a cache as a list.
use Rattle.std.proofs.Common.{List}
use Rattle.oz_cache.specs.Cache.{CacheView, batched_changes, newest}
use Rattle.oz_rows.specs.declared.entry.RowEntry.{RowEntry}
use Rattle.oz_rows.specs.RowMaps.{AreRows, KeysRise}
use Rattle.oz_rows.specs.laws.Changes.{become}

module _ (cache : CacheView) (rise : KeysRise cache.durable.rows) where
  pub entries_of : List RowEntry
  entries_of = (become (batched_changes cache.entered) cache.durable.rows rise).0

  pub are_listed : AreRows entries_of (newest cache)
  unfolding entries_of
  are_listed =
      let made = become (batched_changes cache.entered) cache.durable.rows rise in
      record { in_order = made.1.in_order; rows_are = λ key. made.1.rows key }
