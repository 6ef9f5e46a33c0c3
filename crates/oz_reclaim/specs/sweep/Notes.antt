-- What is noted of changes: those of deleted rows, and of the rows of snapshots.
use Rattle.std.specs.Prelude.{ℕ, Bool, true, false, List, map, filter, is_some, nat_le, nat_lt}
use Rattle.std.specs.List.{list_any}
use Rattle.oz_reclaim.specs.declared.sweep.notes.Note.{Note}
use Rattle.oz_rows.specs.declared.key.RowKey.{RowKey}
use Rattle.oz_rows.specs.declared.key.RowKey.TheVariants as keys
use Rattle.oz_rows.specs.declared.operation.Change.{Change}
use Rattle.oz_rows.specs.RowMaps.{is_bucket, is_same}

-- rows of these kinds are noted
abbrev pub is_noted : RowKey → Bool
is_noted (keys.Deleted volume bucket owner key local) = true
is_noted (keys.Snapshot volume bucket number) = true
is_noted (keys.Volume volume) = false
is_noted (keys.Bucket volume bucket) = false
is_noted (keys.Key volume bucket key) = false
is_noted (keys.Open volume bucket key number) = false
is_noted (keys.SnapshotKey volume bucket snapshot key) = false
is_noted (keys.Renamed volume bucket owner local) = false
is_noted (keys.Stripe stripe) = false

-- the note of a change, as yet under no index
abbrev pub note_of : Change → Note
note_of change = record { index = 0; key = change.key; is_put = is_some change.row }

abbrev pub notes_of : List Change → List Note
notes_of changes = map note_of (filter (λ (change : Change). is_noted change.key) changes)

abbrev pub dated : ℕ → Note → Note
dated index note = record { index = index; key = note.key; is_put = note.is_put }

-- the notes up to an index
abbrev pub up_to : ℕ → List Note → List Note
up_to index notes = filter (λ (note : Note). nat_le note.index index) notes

-- and the later ones
abbrev pub later : ℕ → List Note → List Note
later index notes = filter (λ (note : Note). nat_lt index note.index) notes

-- one of the notes is of this key
abbrev pub names : List Note → RowKey → Bool
names notes key = list_any (λ (note : Note). is_same note.key key) notes

abbrev pub is_snapshot_of : List ℕ → List ℕ → RowKey → Bool
is_snapshot_of volume bucket (keys.Snapshot of_volume of_bucket number) = is_bucket volume bucket of_volume of_bucket
is_snapshot_of volume bucket (keys.Volume of_volume) = false
is_snapshot_of volume bucket (keys.Bucket of_volume of_bucket) = false
is_snapshot_of volume bucket (keys.Key of_volume of_bucket key) = false
is_snapshot_of volume bucket (keys.Open of_volume of_bucket key number) = false
is_snapshot_of volume bucket (keys.Deleted of_volume of_bucket owner key local) = false
is_snapshot_of volume bucket (keys.SnapshotKey of_volume of_bucket snapshot key) = false
is_snapshot_of volume bucket (keys.Renamed of_volume of_bucket owner local) = false
is_snapshot_of volume bucket (keys.Stripe stripe) = false

-- one is of a snapshot of the bucket
abbrev pub touches : List Note → List ℕ → List ℕ → Bool
touches notes volume bucket = list_any (λ (note : Note). is_snapshot_of volume bucket note.key) notes

-- one is of a snapshot of the bucket of this deleted row
abbrev pub touches_home : List Note → RowKey → Bool
touches_home notes (keys.Deleted volume bucket owner key local) = touches notes volume bucket
touches_home notes (keys.Volume volume) = false
touches_home notes (keys.Bucket volume bucket) = false
touches_home notes (keys.Key volume bucket key) = false
touches_home notes (keys.Open volume bucket key number) = false
touches_home notes (keys.Snapshot volume bucket number) = false
touches_home notes (keys.SnapshotKey volume bucket snapshot key) = false
touches_home notes (keys.Renamed volume bucket owner local) = false
touches_home notes (keys.Stripe stripe) = false
