-- Rows that change, and what is noted of it.
use Rattle.std.specs.Prelude.{◌≡◌, ℕ, true, false, List}
use Rattle.oz_reclaim.specs.declared.sweep.notes.Note.{Note}
use Rattle.oz_reclaim.specs.sweep.Notes.{is_noted, names}
use Rattle.oz_rows.specs.declared.key.RowKey.{RowKey}
use Rattle.oz_rows.specs.declared.key.RowKey.TheVariants as keys
use Rattle.oz_rows.specs.RowMaps.{Rows}

-- Deleted rows and those of snapshots differ where notes name them alone, and the keys of a snapshot where they name its row.
pub record DifferByNotes (notes : List Note) (before now : Rows) : Type 0 where
  pub rows : (key : RowKey) → is_noted key ≡ true → names notes key ≡ false → now key ≡ before key
  pub keys : (volume bucket name : List ℕ) (number : ℕ) → names notes (keys.Snapshot volume bucket number) ≡ false
      → now (keys.SnapshotKey volume bucket number name) ≡ before (keys.SnapshotKey volume bucket number name)

-- the keys of a snapshot stay, unless its row is changed too
abbrev pub SnapshotKeysStay : List Note → Rows → Rows → Type 0
SnapshotKeysStay notes before now = (volume bucket name : List ℕ) (number : ℕ) → names notes (keys.Snapshot volume bucket number) ≡ false
    → now (keys.SnapshotKey volume bucket number name) ≡ before (keys.SnapshotKey volume bucket number name)
