-- Since when the blocks of dead rows are out of reach, by what was noted.
use Rattle.std.specs.Prelude.{◌≡◌, ◌⊎◌, ◌&&◌, ◌==◌, ℕ, ◌≤◌, Bool, true, false, not, max, List, [], ◌∷◌, Option, None, Some, is_some, if◌then◌else◌}
use Rattle.std.specs.List.{Contains}
use Rattle.std.specs.Ordering.{nat_cmp}
use Rattle.oz_fields.specs.declared.block.Block.{Block}
use Rattle.oz_reclaim.specs.Work.{is_marked}
use Rattle.oz_reclaim.specs.declared.sweep.births.Birth.{Birth}
use Rattle.oz_reclaim.specs.declared.sweep.notes.Note.{Note}
use Rattle.oz_reclaim.specs.sweep.Dead.{first_of}
use Rattle.oz_rows.specs.declared.entry.RowEntry.{RowEntry}
use Rattle.oz_rows.specs.declared.key.RowKey.{RowKey}
use Rattle.oz_rows.specs.declared.key.RowKey.TheVariants as keys
use Rattle.oz_rows.specs.declared.row.Row.{Row}
use Rattle.oz_rows.specs.Order.{key_order}
use Rattle.oz_rows.specs.RowMaps.{Rows, row_of}
use Rattle.oz_sorted.specs.declared.entry.Entry.{Entry}
use Rattle.oz_sorted.specs.Sorted.{is_same, value_of}
use Rattle.oz_sound.specs.Sound.{StandsIn}

-- the index since which the blocks of a dead row are out of reach, under the row's key
abbrev pub Dates : Type 0
Dates = List (Entry RowKey ℕ)

abbrev pub date_in : Dates → RowKey → Option ℕ
date_in dates key = value_of key_order dates key

abbrev pub or_zero : Option ℕ → ℕ
or_zero None = 0
or_zero (Some number) = number

-- each of the rows has a date, and no other key has one
abbrev pub AreDated : List RowEntry → Dates → Type 0
AreDated dead dates = (key : RowKey) → is_some (date_in dates key) ≡ is_some (row_of dead key)

-- the deleted row has this local id
abbrev pub is_local : ℕ → RowKey → Bool
is_local local (keys.Deleted volume bucket owner key of_local) = is_same nat_cmp of_local local
is_local local (keys.Volume volume) = false
is_local local (keys.Bucket volume bucket) = false
is_local local (keys.Key volume bucket key) = false
is_local local (keys.Open volume bucket key number) = false
is_local local (keys.Snapshot volume bucket number) = false
is_local local (keys.SnapshotKey volume bucket snapshot key) = false
is_local local (keys.Renamed volume bucket owner of_local) = false
is_local local (keys.Stripe stripe) = false

abbrev pub local_of : RowKey → ℕ
local_of (keys.Deleted volume bucket owner key local) = local
local_of (keys.Volume volume) = 0
local_of (keys.Bucket volume bucket) = 0
local_of (keys.Key volume bucket key) = 0
local_of (keys.Open volume bucket key number) = 0
local_of (keys.Snapshot volume bucket number) = 0
local_of (keys.SnapshotKey volume bucket snapshot key) = 0
local_of (keys.Renamed volume bucket owner local) = 0
local_of (keys.Stripe stripe) = 0

-- it was taken away by the same transaction
abbrev pub is_moved : Note → Option Birth → Bool
is_moved note None = false
is_moved note (Some birth) = birth.gone == note.index

abbrev pub since_or : Dates → RowKey → Option Birth → ℕ
since_or dates key None = or_zero (date_in dates key)
since_or dates key (Some birth) = birth.since

abbrev pub gone_or : Option Birth → ℕ
gone_or None = 0
gone_or (Some birth) = birth.gone

-- What a note says of a deleted row: since when it is there, and which transaction took it away. A row that a transaction takes
-- away and puts again is moved: that leaves it what it was.
abbrev pub born : Dates → Note → Option Birth → Birth
born dates note before = record {
  since = if note.is_put && not (is_moved note before) then note.index else since_or dates note.key before;
  gone = if note.is_put then gone_or before else note.index;
}

abbrev pub born_after : Dates → ℕ → Option Birth → Note → Option Birth
born_after dates local before note = if is_local local note.key then Some (born dates note before) else before

-- the same of notes, one after another
abbrev pub births_from : Dates → ℕ → Option Birth → List Note → Option Birth
births_from dates local before [] = before
births_from dates local before (note ∷ notes) = births_from dates local (born_after dates local before note) notes

abbrev pub births : Dates → List Note → ℕ → Option Birth
births dates notes local = births_from dates local None notes

abbrev pub since_in : Option Birth → ℕ
since_in None = 0
since_in (Some birth) = birth.since

-- a deleted snapshot whose row is still there has the key
abbrev pub is_marked_at : Rows → RowKey → Bool
is_marked_at all (keys.Snapshot volume bucket number) = is_marked (all (keys.Snapshot volume bucket number))
is_marked_at all (keys.Volume volume) = false
is_marked_at all (keys.Bucket volume bucket) = false
is_marked_at all (keys.Key volume bucket key) = false
is_marked_at all (keys.Open volume bucket key number) = false
is_marked_at all (keys.Deleted volume bucket owner key local) = false
is_marked_at all (keys.SnapshotKey volume bucket snapshot key) = false
is_marked_at all (keys.Renamed volume bucket owner local) = false
is_marked_at all (keys.Stripe stripe) = false

-- the snapshot with this key has the block, marked or not
abbrev pub SnapshotNames : Rows → RowKey → Block → Type 0
SnapshotNames all (keys.Snapshot volume bucket number) block = (name : List ℕ) × StandsIn all block (keys.SnapshotKey volume bucket number name)
SnapshotNames all (keys.Volume volume) block = ⊥
SnapshotNames all (keys.Bucket volume bucket) block = ⊥
SnapshotNames all (keys.Key volume bucket key) block = ⊥
SnapshotNames all (keys.Open volume bucket key number) block = ⊥
SnapshotNames all (keys.Deleted volume bucket owner key local) block = ⊥
SnapshotNames all (keys.SnapshotKey volume bucket snapshot key) block = ⊥
SnapshotNames all (keys.Renamed volume bucket owner local) block = ⊥
SnapshotNames all (keys.Stripe stripe) block = ⊥

-- the note is of a deleted snapshot that has the block
abbrev pub LetsGo : Rows → Note → Block → Type 0
LetsGo all note block = (is_marked_at all note.key ≡ true) × SnapshotNames all note.key block

-- the greatest index of such a note, 0 where there is none
pub record IsLastMark (all : Rows) (notes : List Note) (block : Block) (index : ℕ) : Type 0 where
  pub each : (note : Note) → Contains notes note → LetsGo all note block → note.index ≤ index
  pub is : (index ≡ 0) ⊎ ((note : Note) × Contains notes note × LetsGo all note block × (note.index ≡ index))

-- Since when the blocks of a dead row are out of reach: as before, where it was dead. Else by the last of the transactions that
-- made it and that deleted snapshots that had its first block.
abbrev pub IsDate : Rows → List Note → Dates → RowKey → Row → ℕ → Option ℕ → Type 0
IsDate all notes dates key row since (Some before) = since ≡ before
IsDate all notes dates key row since None =
    (first : Block) × (first_of row ≡ Some first) × (left : ℕ) × IsLastMark all notes first left
    × (since ≡ max (since_in (births dates notes (local_of key))) left)
