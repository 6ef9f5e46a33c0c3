-- For private calls: tables, and batches that wait above them.
use Rattle.std.specs.Prelude.{◌≡◌, ℕ, ◌<◌, ◌≤◌, Bool, false, List, [], ◌∷◌, length, nat_le}
use Rattle.oz_tables.specs.Tables.{TableView as Tables}
use Rattle.oz_cache.specs.declared.batch.Batch.{Batch}
use Rattle.oz_cache.specs.Cache.{batched_changes}

-- the tables, the batches in order, and for how many changes more there is room
pub record Waiting : Type 0 where
  pub durable : Tables
  pub batches : List Batch
  pub spare : ℕ

-- each epoch is above the one before it
abbrev pub EpochsRise : ℕ → List Batch → Type 0
EpochsRise before [] = Unit {0}
EpochsRise before (batch ∷ batches) = (before < batch.epoch) × EpochsRise batch.epoch batches

-- the first batch has an epoch up to this one
abbrev pub starts_by : ℕ → List Batch → Bool
starts_by epoch [] = false
starts_by epoch (batch ∷ batches) = nat_le batch.epoch epoch

-- the epochs rise above the tables, which have room for all changes
pub record IsBacked (tables : Tables) (batches : List Batch) (count room : ℕ) : Type 0 where
  pub epochs : EpochsRise tables.last_index batches
  pub counted : count ≡ length (batched_changes batches)
  pub within : count ≤ room
  pub reserved : room ≤ tables.spare
