-- What a stripe keeps of rows that may go: what was noted of the rows that wait above the tables, the dead rows of the tables,
-- and whether a snapshot may be deleted.
use Rattle.std.specs.Prelude.{◌≡◌, ◌↔◌, ℕ, Bool, true, false, List, map, flat_map, None}
use Rattle.std.specs.List.{AllByRecursion, list_any}
use Rattle.oz_cache.specs.Cache.{CacheView, newest}
use Rattle.oz_cache.specs.declared.batch.Batch.{Batch}
use Rattle.oz_fields.specs.declared.block.Block.{Block}
use Rattle.oz_namespace.specs.declared.namespace.Namespace.{Namespace}
use Rattle.oz_reclaim.specs.Origins.{SnapshotKeysStay}
use Rattle.oz_reclaim.specs.Reclaimable.{IsAmongFirst, IsReclaimable}
use Rattle.oz_reclaim.specs.Work.{IsChainWork, is_marked}
use Rattle.oz_reclaim.specs.declared.sweep.found.Found.{Found}
use Rattle.oz_reclaim.specs.declared.sweep.notes.Note.{Note}
use Rattle.oz_reclaim.specs.sweep.Found.{IsBacked, IsPartlyPinned, keyed}
use Rattle.oz_reclaim.specs.sweep.Notes.{dated, later, notes_of}
use Rattle.oz_reclaim.specs.sweep.Swept.{IsSweptTo}
use Rattle.oz_rows.specs.declared.key.RowKey.{RowKey}
use Rattle.oz_rows.specs.declared.operation.Change.{Change}
use Rattle.oz_rows.specs.RowMaps.{Rows, row_of}
use Rattle.oz_locks.specs.declared.reclaim.Reclaim.{Reclaim}

-- what is noted of a batch under its index, and of all batches in order
abbrev pub noted_of : Batch → List Note
noted_of batch = map (dated batch.epoch) (notes_of batch.changes)

abbrev pub noted_in : List Batch → List Note
noted_in batches = flat_map noted_of batches

-- one of the changes puts the row of a deleted snapshot
abbrev pub marks_one : List Change → Bool
marks_one changes = list_any (λ (change : Change). is_marked change.row) changes

-- What takes memory was done for these changes.
pub record AreReady (changes : List Change) (it : Reclaim) : Type 0 where
  pub notes : it.sweep.ready ≡ notes_of changes
  pub marks : marks_one changes ≡ true → it.may_be_marked ≡ true

-- It keeps up with the rows, of which those up to an index were brought down into the tables.
pub record KeepsUp (Coherent : Type 0) (flushed : ℕ) (cache : CacheView) (it : Reclaim) : Type 0 where
  -- Of what waits above the tables all is noted that is to be noted.
  pub noted : later flushed it.sweep.noted ≡ noted_in cache.entered
  -- There the keys of a snapshot change only where its own row does.
  pub tidy : Coherent → AllByRecursion (λ (batch : Batch). SnapshotKeysStay batch.changes) cache.entered
  -- The sweep has the dead rows of the tables, but for what is noted.
  pub swept : Coherent → IsSweptTo it.sweep flushed (row_of cache.durable.rows)
  -- Where none may be marked, none is.
  pub unmarked : it.may_be_marked ≡ false → IsChainWork (newest cache) None

-- What was found of these rows, of which these blocks are pinned: exactly the deleted rows that may go, or the first of them where
-- there are more than so many, over rows that stand for a namespace.
pub record AreFound (all : Rows) (pinned : List Block) (most : ℕ) (found : Found) : Type 0 where
  pub only : (namespace : Namespace) → IsBacked all namespace
      → AllByRecursion (λ (row : RowKey × ℕ). IsReclaimable all namespace pinned row.0) found.rows.items
  pub first : (namespace : Namespace) → IsBacked all namespace → (key : RowKey) → IsReclaimable all namespace pinned key
      → IsAmongFirst most (map keyed found.rows.items) key
  pub partly : (namespace : Namespace) → IsBacked all namespace
      → (found.is_partly_pinned ≡ true) ↔ IsPartlyPinned all namespace pinned
