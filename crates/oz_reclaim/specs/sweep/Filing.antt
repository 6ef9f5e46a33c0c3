-- For calls inside this crate alone.

-- Which rows are filed anew.
use Rattle.std.specs.Prelude.{◌≡◌, ◌⊎◌, ◌↔◌, ◌&&◌, ◌==◌, ℕ, ◌≤◌, Bool, true, false, List, [], ◌∷◌, ◌++◌}
use Rattle.std.specs.Prelude.{Option, None, Some, IsSome, IfSome, is_some, if◌then◌else◌, nat_lt}
use Rattle.std.specs.List.{Contains, list_any}
use Rattle.oz_cache.specs.Cache.{has_key}
use Rattle.oz_decision.specs.Walking.{is_live}
use Rattle.oz_effects.specs.changes.Steps.{holds}
use Rattle.oz_fields.specs.declared.block.Block.{Block}
use Rattle.oz_reclaim.specs.declared.sweep.dating.DateChange.{DateChange}
use Rattle.oz_reclaim.specs.declared.sweep.marks.LetGo.{LetGo}
use Rattle.oz_reclaim.specs.declared.sweep.notes.Note.{Note}
use Rattle.oz_reclaim.specs.sweep.Dates.{Dates, IsDate, SnapshotNames, date_in, is_marked_at}
use Rattle.oz_reclaim.specs.sweep.Dead.{AreFiled, first_of}
use Rattle.oz_reclaim.specs.sweep.Kept.{Sets, set_of}
use Rattle.oz_reclaim.specs.sweep.Notes.{is_snapshot_of, names, touches, touches_home}
use Rattle.oz_rows.specs.declared.entry.RowEntry.{RowEntry}
use Rattle.oz_rows.specs.declared.key.RowKey.{RowKey}
use Rattle.oz_rows.specs.declared.key.RowKey.TheVariants as keys
use Rattle.oz_rows.specs.declared.operation.Change.{Change}
use Rattle.oz_rows.specs.declared.row.Row.{Row}
use Rattle.oz_rows.specs.Rows.{kind_of}
use Rattle.oz_rows.specs.RowMaps.{Rows, is_block, is_bucket, is_same}
use Rattle.oz_sound.specs.Sound.{blocks_of}

-- Changes go on: those that come are right, and each key of which this holds is among them.
pub record Files (all : Rows) (Holds : RowKey → Type 0) (before now : List Change) : Type 0 where
  pub filed : AreFiled all before → AreFiled all now
  pub still : (key : RowKey) → has_key key before ≡ true → has_key key now ≡ true
  pub done : (key : RowKey) → Holds key → has_key key now ≡ true

-- a deleted row of the bucket
abbrev pub is_deleted_in : List ℕ → List ℕ → RowKey → Bool
is_deleted_in volume bucket (keys.Deleted of_volume of_bucket owner key local) = is_bucket volume bucket of_volume of_bucket
is_deleted_in volume bucket (keys.Volume of_volume) = false
is_deleted_in volume bucket (keys.Bucket of_volume of_bucket) = false
is_deleted_in volume bucket (keys.Key of_volume of_bucket key) = false
is_deleted_in volume bucket (keys.Open of_volume of_bucket key number) = false
is_deleted_in volume bucket (keys.Snapshot of_volume of_bucket number) = false
is_deleted_in volume bucket (keys.SnapshotKey of_volume of_bucket snapshot key) = false
is_deleted_in volume bucket (keys.Renamed of_volume of_bucket owner local) = false
is_deleted_in volume bucket (keys.Stripe stripe) = false

-- the row is there, and it is a deleted one of the bucket
abbrev pub IsDeletedIn : Rows → List ℕ → List ℕ → RowKey → Type 0
IsDeletedIn all volume bucket key = IsSome (all key) × (is_deleted_in volume bucket key ≡ true)

-- of a bucket of whose snapshots there are notes
abbrev pub IsTouched : Rows → List Note → RowKey → Type 0
IsTouched all notes key = IsSome (all key) × (touches_home notes key ≡ true)

abbrev pub IsDeletedThere : Rows → RowKey → Type 0
IsDeletedThere all key = IsSome (all key) × (kind_of key ≡ 5)

-- The changes of a sweep that is brought on.
pub record AreFilings (all : Rows) (notes : List Note) (is_new : Bool) (changes : List Change) : Type 0 where
  pub filed : AreFiled all changes
  pub named : (key : RowKey) → names notes key ≡ true → has_key key changes ≡ true
  pub touched : (key : RowKey) → IsTouched all notes key → has_key key changes ≡ true
  pub every : is_new ≡ true → (key : RowKey) → IsDeletedThere all key → has_key key changes ≡ true

-- No set is new, and those of buckets of whose snapshots there are notes are gone.
abbrev pub Forgets : List Note → Sets → Sets → Type 0
Forgets notes before now = (volume bucket : List ℕ)
    → (set_of now volume bucket ≡ None)
    ⊎ ((set_of now volume bucket ≡ set_of before volume bucket) × (touches notes volume bucket ≡ false))

-- the same of one note, that is of this key
abbrev pub ForgetsOf : RowKey → Sets → Sets → Type 0
ForgetsOf key before now = (volume bucket : List ℕ)
    → (set_of now volume bucket ≡ None)
    ⊎ ((set_of now volume bucket ≡ set_of before volume bucket) × (is_snapshot_of volume bucket key ≡ false))

-- no set is new
abbrev pub Loses : Sets → Sets → Type 0
Loses before now = (volume bucket : List ℕ)
    → (set_of now volume bucket ≡ None) ⊎ (set_of now volume bucket ≡ set_of before volume bucket)

-- the row is that of a key of a live snapshot
abbrev pub is_of_live : Rows → RowKey → Bool
is_of_live all (keys.SnapshotKey volume bucket snapshot key) = is_live (all (keys.Snapshot volume bucket snapshot))
is_of_live all (keys.Volume volume) = false
is_of_live all (keys.Bucket volume bucket) = false
is_of_live all (keys.Key volume bucket key) = false
is_of_live all (keys.Open volume bucket key number) = false
is_of_live all (keys.Deleted volume bucket owner key local) = false
is_of_live all (keys.Snapshot volume bucket number) = false
is_of_live all (keys.Renamed volume bucket owner local) = false
is_of_live all (keys.Stripe stripe) = false

-- a live snapshot has the block by this row
abbrev pub keeps : Rows → Block → RowEntry → Bool
keeps all block entry = is_of_live all entry.key && list_any (is_block block) (blocks_of entry.row)

-- the row is there, and it is a deleted one of the bucket of which the snapshot with this key is
abbrev pub IsAtHome : Rows → RowKey → RowKey → Type 0
IsAtHome all (keys.Snapshot volume bucket number) key = IsDeletedIn all volume bucket key
IsAtHome all (keys.Volume volume) key = ⊥
IsAtHome all (keys.Bucket volume bucket) key = ⊥
IsAtHome all (keys.Key volume bucket name) key = ⊥
IsAtHome all (keys.Open volume bucket name number) key = ⊥
IsAtHome all (keys.Deleted volume bucket owner name local) key = ⊥
IsAtHome all (keys.SnapshotKey volume bucket snapshot name) key = ⊥
IsAtHome all (keys.Renamed volume bucket owner local) key = ⊥
IsAtHome all (keys.Stripe stripe) key = ⊥

-- one of these entries has the key
abbrev pub IsAmong : List RowEntry → RowKey → Type 0
IsAmong entries key = list_any (λ (entry : RowEntry). is_same entry.key key) entries ≡ true

-- a key's date changes, or goes
abbrev pub dates_after : List DateChange → RowKey → Option ℕ → Option ℕ
dates_after [] key date = date
dates_after (change ∷ changes) key date = dates_after changes key (if is_same change.key key then change.date else date)

-- what was let go by the snapshot of a note
abbrev pub IsLetGo : Rows → Note → LetGo → Type 0
IsLetGo all note entry = (entry.index ≡ note.index) × ((block : Block) → (holds entry.blocks block ≡ true) ↔ SnapshotNames all note.key block)

-- an entry for each note of a deleted snapshot
pub record AreLetGo (all : Rows) (notes : List Note) (entries : List LetGo) : Type 0 where
  pub each : (entry : LetGo) → Contains entries entry → (note : Note) × Contains notes note × (is_marked_at all note.key ≡ true) × IsLetGo all note entry
  pub every : (note : Note) → Contains notes note → is_marked_at all note.key ≡ true → (entry : LetGo) × Contains entries entry × IsLetGo all note entry

-- one more note
abbrev pub AddsLetGo : Rows → Note → List LetGo → List LetGo → Type 0
AddsLetGo all note before now =
    ((is_marked_at all note.key ≡ true) × (entry : LetGo) × IsLetGo all note entry × (now ≡ before ++ entry ∷ []))
    ⊎ ((is_marked_at all note.key ≡ false) × (now ≡ before))

-- the greatest index of the entries that have the block
pub record IsGreatest (entries : List LetGo) (block : Block) (index : ℕ) : Type 0 where
  pub each : (entry : LetGo) → Contains entries entry → holds entry.blocks block ≡ true → entry.index ≤ index
  pub is : (index ≡ 0) ⊎ ((entry : LetGo) × Contains entries entry × (holds entry.blocks block ≡ true) × (entry.index ≡ index))

-- the row is that of a key of the snapshot of this number, and has the block
abbrev pub is_of_number : ℕ → RowKey → Bool
is_of_number number (keys.SnapshotKey volume bucket snapshot key) = snapshot == number
is_of_number number (keys.Volume volume) = false
is_of_number number (keys.Bucket volume bucket) = false
is_of_number number (keys.Key volume bucket key) = false
is_of_number number (keys.Open volume bucket key of_number) = false
is_of_number number (keys.Deleted volume bucket owner key local) = false
is_of_number number (keys.Snapshot volume bucket of_number) = false
is_of_number number (keys.Renamed volume bucket owner local) = false
is_of_number number (keys.Stripe stripe) = false

abbrev pub names_block : ℕ → Block → RowEntry → Bool
names_block number block entry = is_of_number number entry.key && list_any (is_block block) (blocks_of entry.row)

-- the date of a dead row that comes
abbrev pub HasDate : Rows → List Note → Dates → RowKey → Option Row → Option ℕ → Type 0
HasDate all notes dates key (Some row) (Some since) = IsDate all notes dates key row since (date_in dates key)
HasDate all notes dates key None None = Unit {0}
HasDate all notes dates key None (Some since) = ⊥
HasDate all notes dates key (Some row) None = ⊥

-- the row that the change puts has a first block
abbrev pub IsFirstOf : Change → Type 0
IsFirstOf change = IfSome change.row (λ row. IsSome (first_of row))

-- a dead row that comes gets a date, and that of one that goes goes
pub record IsDateChange (all : Rows) (notes : List Note) (dates : Dates) (change : Change) (other : DateChange) : Type 0 where
  pub same : other.key ≡ change.key
  pub both : is_some other.date ≡ is_some change.row
  pub date : IsFirstOf change → HasDate all notes dates change.key change.row other.date

-- one change of a date for each change of a dead row
abbrev pub AreDates : Rows → List Note → Dates → List Change → List DateChange → Type 0
AreDates all notes dates [] [] = Unit {0}
AreDates all notes dates (change ∷ changes) (other ∷ others) = IsDateChange all notes dates change other × AreDates all notes dates changes others
AreDates all notes dates [] (other ∷ others) = ⊥
AreDates all notes dates (change ∷ changes) [] = ⊥

-- the entry's index, where it has the block and that is later
abbrev pub later : ℕ → LetGo → Block → ℕ
later left entry block = if holds entry.blocks block && nat_lt left entry.index then entry.index else left

-- one of the notes is of a snapshot of the bucket of which the snapshot with this key is
abbrev pub touches_bucket : List Note → RowKey → Bool
touches_bucket notes (keys.Snapshot volume bucket number) = touches notes volume bucket
touches_bucket notes (keys.Volume volume) = false
touches_bucket notes (keys.Bucket volume bucket) = false
touches_bucket notes (keys.Key volume bucket key) = false
touches_bucket notes (keys.Open volume bucket key number) = false
touches_bucket notes (keys.Deleted volume bucket owner key local) = false
touches_bucket notes (keys.SnapshotKey volume bucket snapshot key) = false
touches_bucket notes (keys.Renamed volume bucket owner local) = false
touches_bucket notes (keys.Stripe stripe) = false
