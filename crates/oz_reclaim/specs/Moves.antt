-- Deleted rows that move and go, and marked snapshots that are worked off: what becomes of sound rows by that.
use Rattle.std.specs.Prelude.{◌≡◌, ◌≢◌, ◌⊎◌, ℕ, true, List, Some, IsSome}
use Rattle.std.specs.List.{list_any}
use Rattle.oz_fields.specs.declared.block.Block.{Block}
use Rattle.oz_rows.specs.declared.key.RowKey.{RowKey}
use Rattle.oz_rows.specs.declared.key.RowKey.TheVariants as keys
use Rattle.oz_rows.specs.declared.row.Row.{Row}
use Rattle.oz_rows.specs.RowMaps.{Rows, is_block}
use Rattle.oz_sound.specs.Sound.{SnapshotHas, blocks_of}
use Rattle.oz_sound.specs.StandsFor.{IsLive}

-- the rows that a namespace shows whatever its snapshots are
abbrev pub IsSteady : RowKey → Type 0
IsSteady (keys.Volume volume) = Unit {0}
IsSteady (keys.Bucket volume bucket) = Unit {0}
IsSteady (keys.Key volume bucket key) = Unit {0}
IsSteady (keys.Open volume bucket key number) = Unit {0}
IsSteady (keys.Stripe stripe) = Unit {0}
IsSteady (keys.Deleted volume bucket owner key local) = ⊥
IsSteady (keys.Snapshot volume bucket number) = ⊥
IsSteady (keys.SnapshotKey volume bucket snapshot key) = ⊥
IsSteady (keys.Renamed volume bucket owner local) = ⊥

-- no live snapshot has a block of the row
abbrev pub IsInNoSnapshot : Rows → Row → Type 0
IsInNoSnapshot all row =
    (block : Block) (volume bucket name : List ℕ) (number : ℕ)
    → list_any (is_block block) (blocks_of row) ≡ true → SnapshotHas all volume bucket number block name → ⊥

-- Deleted rows move from owner to owner, or go where no live snapshot has a block of theirs. No snapshot comes, and what a
-- live one has stays. All rows of volumes, buckets, keys, sessions and stripes are as they were.
pub record DeletedMove (all now : Rows) : Type 0 where
  pub steady : (key : RowKey) → IsSteady key → now key ≡ all key
  -- Snapshots go, and live ones are as they were, with their keys.
  pub snapshots : (volume bucket : List ℕ) (number : ℕ)
      → IsSome (now (keys.Snapshot volume bucket number)) → IsSome (all (keys.Snapshot volume bucket number))
  pub live : (volume bucket : List ℕ) (number : ℕ)
      → IsLive now volume bucket number → now (keys.Snapshot volume bucket number) ≡ all (keys.Snapshot volume bucket number)
  pub live_keys : (volume bucket key : List ℕ) (number : ℕ)
      → IsLive now volume bucket number
      → now (keys.SnapshotKey volume bucket number key) ≡ all (keys.SnapshotKey volume bucket number key)
  pub snapshot_keys : (volume bucket key : List ℕ) (number : ℕ) (row : Row)
      → now (keys.SnapshotKey volume bucket number key) ≡ Some row
      → (all (keys.SnapshotKey volume bucket number key) ≡ Some row) × IsSome (now (keys.Snapshot volume bucket number))
  -- Which owner the rows of each owner have now.
  pub owner_now : List ℕ → List ℕ → ℕ → ℕ
  pub came : (volume bucket key : List ℕ) (owner local : ℕ) (row : Row)
      → now (keys.Deleted volume bucket owner key local) ≡ Some row
      → (before : ℕ) × (owner_now volume bucket before ≡ owner)
      × (all (keys.Deleted volume bucket before key local) ≡ Some row)
  pub stays : (volume bucket key : List ℕ) (owner local : ℕ) (row : Row)
      → all (keys.Deleted volume bucket owner key local) ≡ Some row
      → (now (keys.Deleted volume bucket (owner_now volume bucket owner) key local) ≡ Some row) ⊎ IsInNoSnapshot now row
  -- Each owner but 0 is a snapshot that is there.
  pub deleted_owners : (volume bucket key : List ℕ) (owner local : ℕ)
      → IsSome (now (keys.Deleted volume bucket owner key local)) → owner ≢ 0
      → IsSome (now (keys.Snapshot volume bucket owner))
  pub renamed_owners : (volume bucket : List ℕ) (owner local : ℕ)
      → IsSome (now (keys.Renamed volume bucket owner local)) → owner ≢ 0
      → IsSome (now (keys.Snapshot volume bucket owner))

-- all renamed rows are as they were
abbrev pub RenamesStay : Rows → Rows → Type 0
RenamesStay all now = (volume bucket : List ℕ) (owner local : ℕ)
    → now (keys.Renamed volume bucket owner local) ≡ all (keys.Renamed volume bucket owner local)
