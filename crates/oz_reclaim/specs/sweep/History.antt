-- How rows go on from index to index, what is noted of it, and since when a block is out of reach.
use Rattle.std.specs.Prelude.{◌≡◌, ◌⊎◌, ◌==◌, ℕ, suc, ◌<◌, ◌≤◌, Bool, true, false, not, List, [], ◌∷◌, ◌++◌, filter, None, Some, IsSome, is_some}
use Rattle.std.specs.List.{Contains, list_any}
use Rattle.oz_decision.specs.Meets.{AreInGrammar}
use Rattle.oz_decision.specs.Walking.{is_live}
use Rattle.oz_fields.specs.declared.block.Block.{Block}
use Rattle.oz_reclaim.specs.Reach.{IsShown}
use Rattle.oz_reclaim.specs.Work.{is_marked}
use Rattle.oz_reclaim.specs.declared.sweep.notes.Note.{Note}
use Rattle.oz_reclaim.specs.sweep.Changes.{DifferByNotes}
use Rattle.oz_reclaim.specs.sweep.Dates.{IsDate, is_local, is_marked_at}
use Rattle.oz_reclaim.specs.sweep.Notes.{up_to}
use Rattle.oz_reclaim.specs.sweep.Swept.{IsSwept}
use Rattle.oz_reclaim.specs.sweep.View.{SweepView, date_of, dead_of}
use Rattle.oz_rows.specs.declared.key.RowKey.{RowKey}
use Rattle.oz_rows.specs.declared.key.RowKey.TheVariants as keys
use Rattle.oz_rows.specs.declared.row.Row.{Row}
use Rattle.oz_rows.specs.Rows.{kind_of}
use Rattle.oz_rows.specs.RowMaps.{Rows, is_block}
use Rattle.oz_sound.specs.Sound.{BlocksAreSound, StandsIn, blocks_of}

-- the rows at each index
abbrev pub History : Type 0
History = ℕ → Rows

abbrev pub notes_at : ℕ → List Note → List Note
notes_at index notes = filter (λ (note : Note). note.index == index) notes

-- no index is below this one, or below one before it
abbrev pub IndexesRise : ℕ → List Note → Type 0
IndexesRise least [] = Unit {0}
IndexesRise least (note ∷ notes) = (least ≤ note.index) × IndexesRise note.index notes

-- the row of a key or of a session
abbrev pub is_in_use : RowKey → Bool
is_in_use (keys.Key volume bucket key) = true
is_in_use (keys.Open volume bucket key number) = true
is_in_use (keys.Volume volume) = false
is_in_use (keys.Bucket volume bucket) = false
is_in_use (keys.Deleted volume bucket owner key local) = false
is_in_use (keys.Snapshot volume bucket number) = false
is_in_use (keys.SnapshotKey volume bucket snapshot key) = false
is_in_use (keys.Renamed volume bucket owner local) = false
is_in_use (keys.Stripe stripe) = false

-- the block stands in such a row
pub record IsInUse (all : Rows) (block : Block) : Type 0 where
  pub key : RowKey
  pub in_use : is_in_use key ≡ true
  pub stands : StandsIn all block key

-- What one transaction does with rows, and what is noted of it.
pub record IsOneStep (before now : Rows) (notes : List Note) : Type 0 where
  pub differ : DifferByNotes notes before now
  -- A deleted row that is put wasn't there, and one that is taken away was.
  pub told : (note : Note) → Contains notes note → kind_of note.key ≡ 5
      → (is_some (now note.key) ≡ note.is_put) × (is_some (before note.key) ≡ not note.is_put)
  -- One that is moved is taken away first.
  pub order : (front behind : List Note) (note : Note) → notes ≡ front ++ note ∷ behind → note.is_put ≡ true
      → (local : ℕ) → is_local local note.key ≡ true → (key : RowKey) → is_local local key ≡ true → IsSome (before key)
      → (gone : Note) × Contains front gone × (gone.is_put ≡ false) × (is_local local gone.key ≡ true)
  -- It was there under some owner, or its blocks were in use.
  pub came : (volume bucket key : List ℕ) (owner local : ℕ) (row : Row) → now (keys.Deleted volume bucket owner key local) ≡ Some row
      → ((other : ℕ) × (before (keys.Deleted volume bucket other key local) ≡ Some row))
      ⊎ ((block : Block) → list_any (is_block block) (blocks_of row) ≡ true → IsInUse before block)
  -- A live snapshot stays, with its keys, or is marked.
  pub live : (volume bucket : List ℕ) (number : ℕ) → is_live (before (keys.Snapshot volume bucket number)) ≡ true
      → ((is_live (now (keys.Snapshot volume bucket number)) ≡ true) ⊎ (is_marked (now (keys.Snapshot volume bucket number)) ≡ true))
      × ((name : List ℕ) → now (keys.SnapshotKey volume bucket number name) ≡ before (keys.SnapshotKey volume bucket number name))
  -- One that is made has blocks that are in use.
  pub made : (volume bucket : List ℕ) (number : ℕ) → is_live (now (keys.Snapshot volume bucket number)) ≡ true
      → (is_live (before (keys.Snapshot volume bucket number)) ≡ true)
      ⊎ ((name : List ℕ) (block : Block) → StandsIn now block (keys.SnapshotKey volume bucket number name) → IsInUse before block)
  -- Only a live one is marked.
  pub marks : (note : Note) → Contains notes note → is_marked_at now note.key ≡ true → is_live (before note.key) ≡ true

-- The rows go on so between two indexes, and are sound there.
pub record GoOn (rows : History) (from upto : ℕ) (noted : List Note) : Type 0 where
  pub rise : IndexesRise (suc from) noted
  pub fit : (index : ℕ) → from ≤ index → index ≤ upto → AreInGrammar (rows index)
  pub sound : (index : ℕ) → from ≤ index → index ≤ upto → BlocksAreSound (rows index)
  pub steps : (index : ℕ) → from ≤ index → index < upto → IsOneStep (rows index) (rows (suc index)) (notes_at (suc index) noted)
  -- No local id of a deleted row comes into use again.
  pub never_back : (index later : ℕ) (key : RowKey) (block : Block) → from ≤ index → index ≤ later → later ≤ upto
      → is_local block.local key ≡ true → IsSome (rows index key) → IsInUse (rows later) block → ⊥
  -- What was marked in between is not worked off in between.
  pub waits : (index later : ℕ) (volume bucket : List ℕ) (number : ℕ) → from ≤ index → index < later → later ≤ upto
      → is_live (rows index (keys.Snapshot volume bucket number)) ≡ true
      → is_marked (rows (suc index) (keys.Snapshot volume bucket number)) ≡ true
      → (rows later (keys.Snapshot volume bucket number) ≡ rows (suc index) (keys.Snapshot volume bucket number))
      × ((name : List ℕ)
      → rows later (keys.SnapshotKey volume bucket number name) ≡ rows (suc index) (keys.SnapshotKey volume bucket number name))

-- The block is out of reach since this index: right before it was in reach. Since 0: it was out of reach as all began.
abbrev pub LeftAt : History → ℕ → Block → ℕ → Type 0
LeftAt rows base block since =
    ((since ≡ 0) × (IsShown (rows base) block → ⊥))
    ⊎ ((before : ℕ) × (since ≡ suc before) × (base ≤ before) × IsShown (rows before) block × (IsShown (rows since) block → ⊥))

-- each block of a dead row is out of reach since the row's date
abbrev pub AreExact : History → ℕ → SweepView → Type 0
AreExact rows base sweep = (key : RowKey) (row : Row) (block : Block) (since : ℕ) → dead_of sweep key ≡ Some row
    → list_any (is_block block) (blocks_of row) ≡ true → date_of sweep key ≡ Some since → LeftAt rows base block since

-- the sweep has the dead rows of this index, or it is that at which all began, and it has none
abbrev pub HasBegun : History → ℕ → ℕ → SweepView → Type 0
HasBegun rows base from sweep = IsSwept sweep (rows from) ⊎ ((from ≡ base) × ((key : RowKey) → dead_of sweep key ≡ None))

-- each dead row has a date by what was noted
abbrev pub AreDatedSo : History → ℕ → SweepView → SweepView → Type 0
AreDatedSo rows upto old now = (key : RowKey) (row : Row) → dead_of now key ≡ Some row
    → (since : ℕ) × (date_of now key ≡ Some since) × IsDate (rows upto) (up_to upto old.noted) old.dates key row since (date_of old key)
