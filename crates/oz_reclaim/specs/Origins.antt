-- Where the rows come from that no namespace shows, and which keys of snapshots change.
use Rattle.std.specs.Prelude.{◌≡◌, ◌⊎◌, ℕ, true, List, Option, Some}
use Rattle.std.specs.List.{AllByRecursion, list_any}
use Rattle.oz_fields.specs.declared.block.Block.{Block}
use Rattle.oz_rows.specs.declared.key.RowKey.{RowKey}
use Rattle.oz_rows.specs.declared.key.RowKey.TheVariants as keys
use Rattle.oz_rows.specs.declared.operation.Change.{Change}
use Rattle.oz_rows.specs.declared.row.Row.{Row}
use Rattle.oz_rows.specs.RowMaps.{Rows, is_block, is_same}
use Rattle.oz_sound.specs.Sound.{StandsIn, blocks_of}

-- the rows of keys and of open keys, from which blocks come into deleted rows
abbrev pub IsSource : RowKey → Type 0
IsSource (keys.Key volume bucket key) = Unit {0}
IsSource (keys.Open volume bucket key number) = Unit {0}
IsSource (keys.Volume volume) = ⊥
IsSource (keys.Bucket volume bucket) = ⊥
IsSource (keys.Deleted volume bucket owner key local) = ⊥
IsSource (keys.Snapshot volume bucket number) = ⊥
IsSource (keys.SnapshotKey volume bucket snapshot key) = ⊥
IsSource (keys.Renamed volume bucket owner local) = ⊥
IsSource (keys.Stripe stripe) = ⊥

-- the block stands in such a row
abbrev pub HasSource : Rows → Block → Type 0
HasSource all block = (source : RowKey) × IsSource source × StandsIn all block source

-- Each deleted row was there under some owner, or each of its blocks had a source.
abbrev pub DeletedRowsComeFrom : Rows → Rows → Type 0
DeletedRowsComeFrom all now =
    (volume bucket key : List ℕ) (owner local : ℕ) (row : Row) → now (keys.Deleted volume bucket owner key local) ≡ Some row
    → ((before : ℕ) × (all (keys.Deleted volume bucket before key local) ≡ Some row))
    ⊎ ((block : Block) → list_any (is_block block) (blocks_of row) ≡ true → HasSource all block)

-- Each renamed row was there under some owner, or its local id is that of a block of a key.
abbrev pub RenamedRowsComeFrom : Rows → Rows → Type 0
RenamedRowsComeFrom all now =
    (volume bucket : List ℕ) (owner local : ℕ) (row : Row) → now (keys.Renamed volume bucket owner local) ≡ Some row
    → ((before : ℕ) × (all (keys.Renamed volume bucket before local) ≡ Some row))
    ⊎ ((block : Block) × (key : List ℕ) × (block.local ≡ local) × StandsIn all block (keys.Key volume bucket key))

-- Each block that has a source had one, or is granted.
abbrev pub SourcesComeFrom : Rows → Rows → Option Block → Type 0
SourcesComeFrom all now granted = (block : Block) → HasSource now block → HasSource all block ⊎ (granted ≡ Some block)

pub record RowsComeFrom (all now : Rows) (granted : Option Block) : Type 0 where
  pub deleted : DeletedRowsComeFrom all now
  pub renamed : RenamedRowsComeFrom all now
  pub sources : SourcesComeFrom all now granted

-- A deleted row that has one of these blocks has no others.
abbrev pub AreWhole : Rows → (Block → Type 0) → Type 0
AreWhole all IsOne =
    (volume bucket key : List ℕ) (owner local : ℕ) (row : Row) → all (keys.Deleted volume bucket owner key local) ≡ Some row
    → (block other : Block) → list_any (is_block block) (blocks_of row) ≡ true → IsOne block
    → list_any (is_block other) (blocks_of row) ≡ true → IsOne other

-- the snapshot's own row is among those that change
abbrev pub ChangesSnapshot : List Change → List ℕ → List ℕ → ℕ → Type 0
ChangesSnapshot changes volume bucket number =
    list_any (λ (change : Change). is_same change.key (keys.Snapshot volume bucket number)) changes ≡ true

-- it is so where this row is a key of a snapshot
abbrev pub IsTidy : List Change → RowKey → Type 0
IsTidy changes (keys.SnapshotKey volume bucket snapshot key) = ChangesSnapshot changes volume bucket snapshot
IsTidy changes (keys.Volume volume) = Unit {0}
IsTidy changes (keys.Bucket volume bucket) = Unit {0}
IsTidy changes (keys.Key volume bucket key) = Unit {0}
IsTidy changes (keys.Open volume bucket key number) = Unit {0}
IsTidy changes (keys.Deleted volume bucket owner key local) = Unit {0}
IsTidy changes (keys.Snapshot volume bucket number) = Unit {0}
IsTidy changes (keys.Renamed volume bucket owner local) = Unit {0}
IsTidy changes (keys.Stripe stripe) = Unit {0}

-- The keys of a snapshot change only where its own row does.
abbrev pub SnapshotKeysStay : List Change → Type 0
SnapshotKeysStay changes = AllByRecursion (λ (change : Change). IsTidy changes change.key) changes
