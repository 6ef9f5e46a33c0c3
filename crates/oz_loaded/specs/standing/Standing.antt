-- What rows have of a bucket, of a volume, and of all volumes.
use Rattle.std.specs.Prelude.{◌≡◌, ℕ, List, length, Option, None, Some, IsSome, slice_get}
use Rattle.std.specs.FinMap.{get}
use Rattle.oz_cache.specs.Cache.{CacheView}
use Rattle.oz_fields.specs.declared.block.Block.{Block}
use Rattle.oz_names.specs.declared.limits.TheConstants.{STRIPES}
use Rattle.oz_namespace.specs.declared.namespace.Bucket.{Bucket}
use Rattle.oz_namespace.specs.declared.namespace.Session.{Session}
use Rattle.oz_namespace.specs.Namespace.{ByName}
use Rattle.oz_rows.specs.declared.key.RowKey.{RowKey}
use Rattle.oz_rows.specs.declared.key.RowKey.TheVariants as keys
use Rattle.oz_rows.specs.declared.row.Row.TheVariants as rows
use Rattle.oz_rows.specs.RowMaps.{Rows, row_of}
use Rattle.oz_sound.specs.StandsFor.{SnapshotsStand, drawn_in, pieces_in}
use Rattle.oz_sound.specs.stripes.Stripes.{only}

-- the keys and the live snapshots of a bucket, and for each number of an open row one session that is an open row
pub record IsBucketOf (all : Rows) (volume bucket : List ℕ) (made : Bucket) : Type 0 where
  pub keys_are : (key : List ℕ) → get made.keys key ≡ pieces_in (all (keys.Key volume bucket key))
  pub sessions_are_rows : (number : ℕ) (session : Session) → get made.sessions number ≡ Some session
      → all (keys.Open volume bucket session.key number) ≡ Some (rows.Open session.blocks)
  pub rows_have_sessions : (key : List ℕ) (number : ℕ) (blocks : List Block)
      → all (keys.Open volume bucket key number) ≡ Some (rows.Open blocks) → IsSome (get made.sessions number)
  pub snapshots_stand : SnapshotsStand all volume bucket made.snapshots

-- a bucket that has a row is there, and no other
abbrev pub BucketIs : Rows → List ℕ → List ℕ → Option Bucket → Type 0
BucketIs all volume bucket None = all (keys.Bucket volume bucket) ≡ None
BucketIs all volume bucket (Some made) =
    IsSome (all (keys.Bucket volume bucket)) × IsBucketOf all volume bucket made

-- the same of a volume, with its buckets
abbrev pub VolumeIs : Rows → List ℕ → Option (ByName Bucket) → Type 0
VolumeIs all volume None = all (keys.Volume volume) ≡ None
VolumeIs all volume (Some buckets) =
    IsSome (all (keys.Volume volume)) × ((bucket : List ℕ) → BucketIs all volume bucket (get buckets bucket))

abbrev pub VolumesAre : Rows → ByName (ByName Bucket) → Type 0
VolumesAre all volumes = (volume : List ℕ) → VolumeIs all volume (get volumes volume)

-- the volumes that have a row come in, and the others stay as they were
pub record AddsVolumes (all : Rows) (before after : ByName (ByName Bucket)) : Type 0 where
  pub here : (volume : List ℕ) → IsSome (all (keys.Volume volume)) → VolumeIs all volume (get after volume)
  pub others : (volume : List ℕ) → all (keys.Volume volume) ≡ None → get after volume ≡ get before volume

-- The rows in sixteen parts: each has in its tables the rows of its stripe.
pub record AreStripesOf (all : Rows) (parts : List CacheView) : Type 0 where
  pub sixteen : length parts ≡ STRIPES
  pub each : (stripe : ℕ) (part : CacheView) → slice_get parts stripe ≡ Some part
      → (key : RowKey) → row_of part.durable.rows key ≡ only stripe all key

-- how many numbers the part of a stripe says were drawn there
abbrev pub drawn_at : ℕ → Option CacheView → ℕ
drawn_at stripe None = 0
drawn_at stripe (Some part) = drawn_in (row_of part.durable.rows (keys.Stripe stripe))
