-- What the Decides of a stripe write, and which changes of rows that is.
use Rattle.std.specs.Prelude.{◌≡◌, ℕ, List, [], ◌∷◌, Option, None, Some}
use Rattle.oz_cache.specs.declared.batch.Batch.{Batch}
use Rattle.oz_core.specs.declared.event.Event.{Event}
use Rattle.oz_core.specs.declared.event.EventKind.{EventKind}
use Rattle.oz_core.specs.declared.event.EventKind.TheVariants.{Decide}
use Rattle.oz_core.specs.Stories.{all_told}
use Rattle.oz_effects.specs.Batches.{IsBatchOf}
use Rattle.oz_rows.specs.RowMaps.{Rows, after_changes}

-- the index of a Decide that has a batch, and the batch's bytes
pub record Write : Type 0 where
  pub index : ℕ
  pub bytes : List ℕ

abbrev pub write_of : ℕ → List ℕ → Option Write
write_of index [] = None
write_of index (byte ∷ bytes) = Some (record { index = index; bytes = byte ∷ bytes })

abbrev pub write_in : EventKind → Option Write
write_in (Decide id index reply batch) = write_of index batch
write_in _ = None

-- all writes of these events, in order
abbrev pub writes_of : List Event → List Write
writes_of events = all_told write_in events

-- The changes that these writes make, in order: each under the index of its write, and as the bytes of the write change
-- the rows that the writes before it left.
abbrev pub AreChangesOf : Rows → List Write → List Batch → Type 0
AreChangesOf rows [] [] = Unit {0}
AreChangesOf rows (write ∷ writes) (batch ∷ batches) =
    (batch.epoch ≡ write.index) × IsBatchOf rows write.bytes batch.changes
    × AreChangesOf (after_changes batch.changes rows) writes batches
AreChangesOf rows _ _ = ⊥
