-- For calls inside this crate alone.

-- Whose rows they are, told by their keys.
use Rattle.std.specs.Prelude.{◌≡◌, ℕ, Bool, true, false, ◌&&◌, ◌==◌, List, IsSome, if◌then◌else◌}
use Rattle.oz_rows.specs.declared.key.RowKey.{RowKey}
use Rattle.oz_rows.specs.declared.key.RowKey.TheVariants as keys
use Rattle.oz_rows.specs.Rows.{kind_of}
use Rattle.oz_rows.specs.RowMaps.{Rows, IsBelow, is_bucket}

-- a deleted or a renamed row of the bucket with this owner
abbrev pub is_owned : List ℕ → List ℕ → ℕ → RowKey → Bool
is_owned volume bucket owner (keys.Deleted of_volume of_bucket of_owner key local) =
    is_bucket volume bucket of_volume of_bucket && of_owner == owner
is_owned volume bucket owner (keys.Renamed of_volume of_bucket of_owner local) =
    is_bucket volume bucket of_volume of_bucket && of_owner == owner
is_owned volume bucket owner (keys.Volume of_volume) = false
is_owned volume bucket owner (keys.Bucket of_volume of_bucket) = false
is_owned volume bucket owner (keys.Key of_volume of_bucket key) = false
is_owned volume bucket owner (keys.Open of_volume of_bucket key number) = false
is_owned volume bucket owner (keys.Snapshot of_volume of_bucket number) = false
is_owned volume bucket owner (keys.SnapshotKey of_volume of_bucket snapshot key) = false
is_owned volume bucket owner (keys.Stripe stripe) = false

-- such a row is there, of this kind
abbrev pub HasOwned : Rows → ℕ → List ℕ → List ℕ → ℕ → Type 0
HasOwned all kind volume bucket owner =
    (key : RowKey) × (kind_of key ≡ kind) × (is_owned volume bucket owner key ≡ true) × IsSome (all key)

-- the key is the owner's, and no other of that kind is below it
pub record IsFirstOwned (volume bucket : List ℕ) (owner : ℕ) (key : RowKey) : Type 0 where
  pub owned : is_owned volume bucket owner key ≡ true
  pub first : (other : RowKey) → kind_of other ≡ kind_of key → is_owned volume bucket owner other ≡ true
      → IsBelow other key → ⊥

-- the number of a snapshot of the bucket, 0 for all other keys
abbrev pub number_of : List ℕ → List ℕ → RowKey → ℕ
number_of volume bucket (keys.Snapshot of_volume of_bucket number) =
    if is_bucket volume bucket of_volume of_bucket then number else 0
number_of volume bucket (keys.Volume of_volume) = 0
number_of volume bucket (keys.Bucket of_volume of_bucket) = 0
number_of volume bucket (keys.Key of_volume of_bucket key) = 0
number_of volume bucket (keys.Open of_volume of_bucket key number) = 0
number_of volume bucket (keys.Deleted of_volume of_bucket owner key local) = 0
number_of volume bucket (keys.SnapshotKey of_volume of_bucket snapshot key) = 0
number_of volume bucket (keys.Renamed of_volume of_bucket owner local) = 0
number_of volume bucket (keys.Stripe stripe) = 0
