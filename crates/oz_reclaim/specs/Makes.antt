-- A snapshot that is made: what it does to the rows.
use Rattle.std.specs.Prelude.{◌≡◌, ◌⊎◌, ℕ, ◌<◌, ◌≤◌, true, false, List, Option, None, Some, IsSome}
use Rattle.oz_names.specs.Names.{stripe_of}
use Rattle.oz_names.specs.declared.limits.TheConstants.{MOST_KEYS, MOST_SNAPSHOTS}
use Rattle.oz_rows.specs.declared.key.RowKey.{RowKey}
use Rattle.oz_rows.specs.declared.key.RowKey.TheVariants as keys
use Rattle.oz_rows.specs.declared.row.Row.{Row}
use Rattle.oz_rows.specs.declared.row.Row.TheVariants as rows
use Rattle.oz_rows.specs.declared.row.SnapshotState.TheVariants.{Live}
use Rattle.oz_rows.specs.RowMaps.{Rows, is_same}
use Rattle.oz_sound.specs.Sound.{AtMost}
use Rattle.oz_sound.specs.StandsFor.{IsLive, drawn_in}

-- the rows of volumes, buckets, keys and sessions
abbrev pub IsOfBucket : RowKey → Type 0
IsOfBucket (keys.Volume volume) = Unit {0}
IsOfBucket (keys.Bucket volume bucket) = Unit {0}
IsOfBucket (keys.Key volume bucket key) = Unit {0}
IsOfBucket (keys.Open volume bucket key number) = Unit {0}
IsOfBucket key = ⊥

-- what a snapshot has of the row of a key
abbrev pub copy_of : Option Row → Option Row
copy_of (Some (rows.Key made pieces)) = Some (rows.SnapshotKey made pieces)
copy_of row = None

-- The snapshot has a number above all that were drawn and a name that no live one has. It has a copy of each key. All that
-- the bucket itself owned, in deleted and renamed rows, is the snapshot's.
pub record SnapshotMade (all now : Rows) (volume bucket name : List ℕ) (number : ℕ) : Type 0 where
  pub fresh : drawn_in (all (keys.Stripe (stripe_of volume))) < number
  pub drawn : (stripe : ℕ) → drawn_in (all (keys.Stripe stripe)) ≤ drawn_in (now (keys.Stripe stripe))
  pub drawn_now : number ≤ drawn_in (now (keys.Stripe (stripe_of volume)))
  pub steady : (key : RowKey) → IsOfBucket key → now key ≡ all key
  pub previous : ℕ
  pub made : now (keys.Snapshot volume bucket number) ≡ Some (rows.Snapshot name previous Live)
  pub name_is_free : (other before : ℕ)
      → all (keys.Snapshot volume bucket other) ≡ Some (rows.Snapshot name before Live) → ⊥
  pub snapshots : (of_volume of_bucket : List ℕ) (other : ℕ)
      → is_same (keys.Snapshot volume bucket number) (keys.Snapshot of_volume of_bucket other) ≡ false
      → now (keys.Snapshot of_volume of_bucket other) ≡ all (keys.Snapshot of_volume of_bucket other)
  pub copies : (key : List ℕ)
      → now (keys.SnapshotKey volume bucket number key) ≡ copy_of (all (keys.Key volume bucket key))
  pub snapshot_keys : (of_volume of_bucket key : List ℕ) (other : ℕ)
      → is_same (keys.Snapshot volume bucket number) (keys.Snapshot of_volume of_bucket other) ≡ false
      → now (keys.SnapshotKey of_volume of_bucket other key) ≡ all (keys.SnapshotKey of_volume of_bucket other key)
  -- Which owner the rows of each owner have now.
  pub owner_now : List ℕ → List ℕ → ℕ → ℕ
  pub owner : (of_volume of_bucket : List ℕ) (before : ℕ)
      → (owner_now of_volume of_bucket before ≡ before)
      ⊎ ((before ≡ 0)
      × (is_same (keys.Snapshot volume bucket number) (keys.Snapshot of_volume of_bucket (owner_now of_volume of_bucket before)) ≡ true))
  pub takes_over : owner_now volume bucket 0 ≡ number
  pub came : (of_volume of_bucket key : List ℕ) (owner local : ℕ) (row : Row)
      → now (keys.Deleted of_volume of_bucket owner key local) ≡ Some row
      → (before : ℕ) × (owner_now of_volume of_bucket before ≡ owner)
      × (all (keys.Deleted of_volume of_bucket before key local) ≡ Some row)
  pub stays : (of_volume of_bucket key : List ℕ) (owner local : ℕ) (row : Row)
      → all (keys.Deleted of_volume of_bucket owner key local) ≡ Some row
      → now (keys.Deleted of_volume of_bucket (owner_now of_volume of_bucket owner) key local) ≡ Some row
  pub renamed_came : (of_volume of_bucket : List ℕ) (owner local : ℕ) (row : Row)
      → now (keys.Renamed of_volume of_bucket owner local) ≡ Some row
      → (before : ℕ) × (owner_now of_volume of_bucket before ≡ owner)
      × (all (keys.Renamed of_volume of_bucket before local) ≡ Some row)
  pub renamed_stays : (of_volume of_bucket : List ℕ) (owner local : ℕ) (row : Row)
      → all (keys.Renamed of_volume of_bucket owner local) ≡ Some row
      → now (keys.Renamed of_volume of_bucket (owner_now of_volume of_bucket owner) local) ≡ Some row
  -- How many there are stays within the rules.
  pub few : (of_volume of_bucket : List ℕ) → AtMost MOST_SNAPSHOTS (IsLive now of_volume of_bucket)
  pub few_keys : AtMost MOST_KEYS (λ key. IsSome (now (keys.SnapshotKey volume bucket number key)))
