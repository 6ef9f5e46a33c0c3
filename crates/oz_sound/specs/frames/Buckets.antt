-- A bucket whose rows have changed.
use Rattle.std.specs.Prelude.{◌≡◌, ◌≢◌, ◌↔◌, ℕ, List, map, Some, IsSome}
use Rattle.std.specs.FinMap.{get, insert}
use Rattle.oz_namespace.specs.declared.namespace.Bucket.{Bucket}
use Rattle.oz_namespace.specs.declared.namespace.Namespace.{Namespace}
use Rattle.oz_namespace.specs.declared.namespace.Session.{Session}
use Rattle.oz_namespace.specs.Namespace.{ByName, sixteen, buckets_of}
use Rattle.oz_rows.specs.declared.key.RowKey.{RowKey}
use Rattle.oz_rows.specs.declared.key.RowKey.TheVariants as keys
use Rattle.oz_rows.specs.declared.row.Row.TheVariants as rows
use Rattle.oz_rows.specs.Rows.{kind_of}
use Rattle.oz_rows.specs.RowMaps.{Rows}
use Rattle.oz_sound.specs.Sound.{bucket_of_row}
use Rattle.oz_sound.specs.StandsFor.{SnapshotsStand, pieces_in, drawn_in}

-- the volume has this bucket among its buckets, and so many numbers were drawn
abbrev pub with_bucket : Namespace → List ℕ → ByName Bucket → List ℕ → Bucket → List ℕ → Namespace
with_bucket namespace volume buckets name bucket stripes =
    record { volumes = insert namespace.volumes volume (insert buckets name bucket); stripes = stripes }

-- a row of another bucket or of none, and of no stripe
pub record IsOutside (volume name : List ℕ) (key : RowKey) : Type 0 where
  pub other : bucket_of_row key ≡ Some (volume, name) → ⊥
  pub no_stripe : kind_of key ≢ 9

-- Rows of one bucket and of stripes changed, of whatever kinds, so that they show this bucket and these numbers.
pub record BucketBecomes (all now : Rows) (namespace : Namespace) (volume : List ℕ) (buckets : ByName Bucket) (name : List ℕ) (bucket : Bucket)
    (stripes : List ℕ) : Type 0 where
  pub volume_there : buckets_of namespace volume ≡ Some buckets
  pub outside : (key : RowKey) → IsOutside volume name key → now key ≡ all key
  pub there : IsSome (now (keys.Bucket volume name))
  pub pieces : (key : List ℕ) → get bucket.keys key ≡ pieces_in (now (keys.Key volume name key))
  pub sessions : (number : ℕ) (session : Session)
      → (get bucket.sessions number ≡ Some session)
      ↔ (now (keys.Open volume name session.key number) ≡ Some (rows.Open session.blocks))
  pub snapshots : SnapshotsStand now volume name bucket.snapshots
  pub numbers : stripes ≡ map (λ stripe. drawn_in (now (keys.Stripe stripe))) sixteen
