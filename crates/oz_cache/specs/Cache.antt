-- Tables with newer rows above them as one map: what was entered, and what it makes of the rows.
use Rattle.std.specs.Prelude.{ℕ, Bool, if◌then◌else◌, List, [], ◌∷◌, ◌++◌, Option, None, Some}
use Rattle.std.specs.Prelude.{filter, nat_le, nat_lt}
use Rattle.std.specs.List.{list_any}
use Rattle.oz_epochs.specs.Epochs.{EpochEntry}
use Rattle.oz_rows.specs.declared.key.RowKey.{RowKey}
use Rattle.oz_rows.specs.declared.row.Row.{Row}
use Rattle.oz_rows.specs.declared.operation.Change.{Change}
use Rattle.oz_tables.specs.Tables.{TableView as Tables}
use Rattle.oz_rows.specs.RowMaps.{row_of, row_after, is_same}
use Rattle.oz_cache.specs.declared.batch.Batch.{Batch}

-- the tables beneath; the batches that were entered and not yet flushed, in order; the list of epochs;
-- and for how many changes there is room
pub record CacheView : Type 0 where
  pub durable : Tables
  pub entered : List Batch
  pub epochs : List (EpochEntry RowKey)
  pub spare : ℕ

abbrev pub batch_of : ℕ → List Change → Batch
batch_of epoch changes = record { epoch = epoch; changes = changes }

-- all changes of batches, in order
abbrev pub batched_changes : List Batch → List Change
batched_changes [] = []
batched_changes (batch ∷ batches) = batch.changes ++ batched_changes batches

-- the row that a key has after all that was entered
abbrev pub newest : CacheView → RowKey → Option Row
newest cache key = row_after (batched_changes cache.entered) key (row_of cache.durable.rows key)

-- the epoch of the last batch, or the one before where there is none
abbrev pub epoch_after : ℕ → List Batch → ℕ
epoch_after before [] = before
epoch_after before (batch ∷ batches) = epoch_after batch.epoch batches

-- the last epoch: of what was entered, or of the tables where nothing is
abbrev pub last_epoch : CacheView → ℕ
last_epoch cache = epoch_after cache.durable.last_index cache.entered

-- the batches up to an epoch
abbrev pub up_to : ℕ → List Batch → List Batch
up_to epoch batches = filter (λ batch. nat_le batch.epoch epoch) batches

-- and the later ones
abbrev pub later : ℕ → List Batch → List Batch
later epoch batches = filter (λ batch. nat_lt epoch batch.epoch) batches

-- one of the changes is the key's
abbrev pub has_key : RowKey → List Change → Bool
has_key key changes = list_any (λ change. is_same change.key key) changes

-- the epoch of the last batch that changed a key, or what was before where none did
abbrev pub changed_at : RowKey → Option ℕ → List Batch → Option ℕ
changed_at key before [] = before
changed_at key before (batch ∷ batches) =
    changed_at key (if has_key key batch.changes then Some batch.epoch else before) batches

-- the epochs that a list has under a key
abbrev pub epochs_under : RowKey → List (EpochEntry RowKey) → List ℕ
epochs_under key [] = []
epochs_under key (e ∷ es) = if is_same e.key key then e.epoch ∷ epochs_under key es else epochs_under key es

abbrev pub one_or_none : Option ℕ → List ℕ
one_or_none None = []
one_or_none (Some epoch) = epoch ∷ []
