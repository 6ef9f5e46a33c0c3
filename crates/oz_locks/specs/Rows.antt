-- What a stripe keeps of its rows: its Decides replayed over the rows that were loaded, those that were brought down in the
-- tables, and the later ones above them.
use Rattle.std.specs.Prelude.{◌≡◌, ℕ, ◌≤◌, List, ◌++◌}
use Rattle.std.specs.List.{AllByRecursion}
use Rattle.oz_cache.specs.Cache.{CacheView, batched_changes}
use Rattle.oz_cache.specs.Waiting.{EpochsRise}
use Rattle.oz_cache.specs.declared.batch.Batch.{Batch}
use Rattle.oz_rows.specs.declared.key.RowKey.{RowKey}
use Rattle.oz_rows.specs.RowMaps.{Rows, row_of, row_after}
use Rattle.oz_locks.specs.Writes.{Write, AreChangesOf}

-- These are the rows after all writes, over the rows that were loaded.
pub record AreReplayed (loaded : Rows) (writes : List Write) (rows : Rows) : Type 0 where
  pub batches : List Batch
  pub changes : AreChangesOf loaded writes batches
  pub each : (key : RowKey) → rows key ≡ row_after (batched_changes batches) key (loaded key)

-- The changes of the writes are parted at an index: those up to it stand in the tables, and those above it wait in the
-- cache, in the order of their indexes.
pub record IsReplayed (loaded : Rows) (writes : List Write) (flushed : ℕ) (cache : CacheView) : Type 0 where
  pub down : List Batch
  pub changes : AreChangesOf loaded writes (down ++ cache.entered)
  pub brought : AllByRecursion (λ (batch : Batch). batch.epoch ≤ flushed) down
  pub waiting : EpochsRise flushed cache.entered
  pub in_tables : (key : RowKey) → row_of cache.durable.rows key ≡ row_after (batched_changes down) key (loaded key)
  pub last : cache.durable.last_index ≤ flushed
