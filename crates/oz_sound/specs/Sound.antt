-- What holds of the rows of every manager, beside the namespace that they stand for.
use Rattle.std.specs.Prelude.{◌≡◌, ◌≢◌, ◌⊎◌, ℕ, ◌<◌, ◌≤◌, true, List, [], ◌∷◌, length, map, Option, None, Some, IsSome}
use Rattle.std.specs.List.{AllByRecursion, list_any}
use Rattle.oz_fields.specs.declared.block.Block.{Block}
use Rattle.oz_fields.specs.declared.block.Piece.{Piece}
use Rattle.oz_names.specs.Names.{stripe_of}
use Rattle.oz_names.specs.declared.limits.TheConstants.{MOST_BUCKETS, MOST_KEYS, MOST_SNAPSHOTS}
use Rattle.oz_rows.specs.declared.key.RowKey.{RowKey}
use Rattle.oz_rows.specs.declared.key.RowKey.TheVariants as keys
use Rattle.oz_rows.specs.declared.row.Row.{Row}
use Rattle.oz_rows.specs.declared.row.Row.TheVariants as rows
use Rattle.oz_rows.specs.declared.row.SnapshotState.TheVariants.{Live}
use Rattle.oz_rows.specs.Counts.{AllDiffer}
use Rattle.oz_rows.specs.RowMaps.{is_block, Rows}
use Rattle.oz_sound.specs.StandsFor.{IsLive, drawn_in}

-- the blocks that a row names
abbrev pub blocks_of : Row → List Block
blocks_of (rows.Key number pieces) = map (λ (piece : Piece). piece.block) pieces
blocks_of (rows.Open blocks) = blocks
blocks_of (rows.Deleted blocks) = blocks
blocks_of (rows.SnapshotKey number pieces) = map (λ (piece : Piece). piece.block) pieces
blocks_of rows.Volume = []
blocks_of rows.Bucket = []
blocks_of (rows.Snapshot name previous state) = []
blocks_of (rows.Renamed key) = []
blocks_of (rows.Stripe number) = []

-- the block stands in the row of this key
pub record StandsIn (all : Rows) (block : Block) (key : RowKey) : Type 0 where
  pub row : Row
  pub there : all key ≡ Some row
  pub has : list_any (is_block block) (blocks_of row) ≡ true

-- the volume and the bucket of a row, None for the rows of no bucket
abbrev pub bucket_of_row : RowKey → Option (List ℕ × List ℕ)
bucket_of_row (keys.Volume volume) = None
bucket_of_row (keys.Bucket volume bucket) = Some (volume, bucket)
bucket_of_row (keys.Key volume bucket key) = Some (volume, bucket)
bucket_of_row (keys.Open volume bucket key number) = Some (volume, bucket)
bucket_of_row (keys.Deleted volume bucket owner key local) = Some (volume, bucket)
bucket_of_row (keys.Snapshot volume bucket number) = Some (volume, bucket)
bucket_of_row (keys.SnapshotKey volume bucket snapshot key) = Some (volume, bucket)
bucket_of_row (keys.Renamed volume bucket owner local) = Some (volume, bucket)
bucket_of_row (keys.Stripe stripe) = None

-- the rows of keys and of deleted keys, which keep a block for the snapshots
abbrev pub IsKeeper : RowKey → Type 0
IsKeeper (keys.Key volume bucket key) = Unit {0}
IsKeeper (keys.Deleted volume bucket owner key local) = Unit {0}
IsKeeper (keys.Volume volume) = ⊥
IsKeeper (keys.Bucket volume bucket) = ⊥
IsKeeper (keys.Open volume bucket key number) = ⊥
IsKeeper (keys.Snapshot volume bucket number) = ⊥
IsKeeper (keys.SnapshotKey volume bucket snapshot key) = ⊥
IsKeeper (keys.Renamed volume bucket owner local) = ⊥
IsKeeper (keys.Stripe stripe) = ⊥

-- these rows and those of open keys: a block stands in one of them
abbrev pub IsHome : RowKey → Type 0
IsHome (keys.Key volume bucket key) = Unit {0}
IsHome (keys.Open volume bucket key number) = Unit {0}
IsHome (keys.Deleted volume bucket owner key local) = Unit {0}
IsHome (keys.Volume volume) = ⊥
IsHome (keys.Bucket volume bucket) = ⊥
IsHome (keys.Snapshot volume bucket number) = ⊥
IsHome (keys.SnapshotKey volume bucket snapshot key) = ⊥
IsHome (keys.Renamed volume bucket owner local) = ⊥
IsHome (keys.Stripe stripe) = ⊥

-- a live snapshot has the block under this name
pub record SnapshotHas (all : Rows) (volume bucket : List ℕ) (number : ℕ) (block : Block) (name : List ℕ) : Type 0 where
  pub live : IsLive all volume bucket number
  pub stands : StandsIn all block (keys.SnapshotKey volume bucket number name)

-- two blocks stand in the same live snapshots of a bucket
abbrev pub AreTogether : Rows → List ℕ → List ℕ → Block → Block → Type 0
AreTogether all volume bucket block other =
    (number : ℕ) (name : List ℕ) → SnapshotHas all volume bucket number block name
    → (another : List ℕ) × SnapshotHas all volume bucket number other another

-- An owner that comes behind a snapshot in the chain: a later snapshot, or the bucket itself, which is 0.
abbrev pub ComesBehind : ℕ → ℕ → Type 0
ComesBehind number owner = (owner ≡ 0) ⊎ (number < owner)

-- of the owners behind a snapshot, the first that has a renamed row of the block, and the name that it has
pub record IsRename (all : Rows) (volume bucket : List ℕ) (number local owner : ℕ) (name : List ℕ) : Type 0 where
  pub row : all (keys.Renamed volume bucket owner local) ≡ Some (rows.Renamed name)
  pub behind : ComesBehind number owner
  pub first : (other : ℕ) → ComesBehind number other → IsSome (all (keys.Renamed volume bucket other local))
      → other ≢ owner → (owner ≢ 0) × ComesBehind owner other

-- the block has another name later on: in a later live snapshot, or in the bucket
abbrev pub IsNamedAnew : Rows → List ℕ → List ℕ → ℕ → Block → List ℕ → Type 0
IsNamedAnew all volume bucket number block name =
    ((later : ℕ) × (another : List ℕ) × (number < later) × SnapshotHas all volume bucket later block another
    × (another ≢ name))
    ⊎ ((another : List ℕ) × StandsIn all block (keys.Key volume bucket another) × (another ≢ name))

-- so many things and no more
abbrev pub AtMost : {A : Type 0} → ℕ → (A → Type 0) → Type 0
AtMost {A} count Holds = (items : List A) → AllDiffer items → AllByRecursion Holds items → length items ≤ count

-- a key of the bucket, or a session of it, which has a key and a number
abbrev pub IsUsing : Rows → List ℕ → List ℕ → (List ℕ × Option ℕ) → Type 0
IsUsing all volume bucket (key, None) = IsSome (all (keys.Key volume bucket key))
IsUsing all volume bucket (key, Some number) = IsSome (all (keys.Open volume bucket key number))

-- Where blocks stand.
pub record BlocksAreSound (all : Rows) : Type 0 where
  -- A block stands in the rows of one bucket alone.
  pub one_bucket : (block : Block) (key other : RowKey)
      → StandsIn all block key → StandsIn all block other → bucket_of_row key ≡ bucket_of_row other
  -- Of the rows of keys, of open keys and of deleted keys it stands in one.
  pub one_home : (block : Block) (key other : RowKey)
      → IsHome key → IsHome other → StandsIn all block key → StandsIn all block other → key ≡ other
  -- No two blocks have one local id.
  pub one_local : (block twin : Block) (key other : RowKey)
      → StandsIn all block key → StandsIn all twin other → block.local ≡ twin.local → block ≡ twin
  -- A block of a live snapshot stands in the row of a key or of a deleted key, which keeps it.
  pub kept : (volume bucket name : List ℕ) (number : ℕ) (block : Block)
      → SnapshotHas all volume bucket number block name → (key : RowKey) × IsKeeper key × StandsIn all block key
  -- All blocks of one deleted row stand in the same live snapshots.
  pub deleted_together : (volume bucket key : List ℕ) (owner local : ℕ) (block other : Block)
      → StandsIn all block (keys.Deleted volume bucket owner key local)
      → StandsIn all other (keys.Deleted volume bucket owner key local)
      → AreTogether all volume bucket block other
  -- All blocks of one key stand in the same live snapshots.
  pub key_together : (volume bucket key : List ℕ) (block other : Block)
      → StandsIn all block (keys.Key volume bucket key) → StandsIn all other (keys.Key volume bucket key)
      → AreTogether all volume bucket block other

-- Under which names snapshots and blocks stand.
pub record NamesAreSound (all : Rows) : Type 0 where
  -- Live snapshots of one bucket have different names.
  pub one_snapshot : (volume bucket name : List ℕ) (number previous other before : ℕ)
      → all (keys.Snapshot volume bucket number) ≡ Some (rows.Snapshot name previous Live)
      → all (keys.Snapshot volume bucket other) ≡ Some (rows.Snapshot name before Live) → number ≡ other
  -- A block stands under one name in a live snapshot.
  pub one_name : (volume bucket name another : List ℕ) (number : ℕ) (block : Block)
      → SnapshotHas all volume bucket number block name → SnapshotHas all volume bucket number block another
      → name ≡ another
  -- A block of an open key stands in live snapshots under that key alone.
  pub open_name : (volume bucket key name : List ℕ) (session number : ℕ) (block : Block)
      → StandsIn all block (keys.Open volume bucket key session) → SnapshotHas all volume bucket number block name
      → name ≡ key

-- What renamed rows say of the names that blocks have in live snapshots.
pub record RenamesAreSound (all : Rows) : Type 0 where
  -- The first rename of a block behind a live snapshot gives the name that it has there.
  pub renamed : (volume bucket name another : List ℕ) (number owner : ℕ) (block : Block)
      → SnapshotHas all volume bucket number block name
      → IsRename all volume bucket number block.local owner another → another ≡ name
  -- Where a block of a live snapshot has another name later on, there is a rename behind the snapshot.
  pub noted : (volume bucket name : List ℕ) (number : ℕ) (block : Block)
      → SnapshotHas all volume bucket number block name → IsNamedAnew all volume bucket number block name
      → (owner : ℕ) × (another : List ℕ) × IsRename all volume bucket number block.local owner another

-- Which numbers sessions, snapshots and owners have.
pub record NumbersAreSound (all : Rows) : Type 0 where
  -- The number of a session was drawn in the stripe of its volume.
  pub sessions : (volume bucket key : List ℕ) (number : ℕ)
      → IsSome (all (keys.Open volume bucket key number)) → number ≤ drawn_in (all (keys.Stripe (stripe_of volume)))
  -- The number of a snapshot was drawn there too.
  pub snapshots : (volume bucket : List ℕ) (number : ℕ)
      → IsSome (all (keys.Snapshot volume bucket number)) → number ≤ drawn_in (all (keys.Stripe (stripe_of volume)))
  -- The owner of a deleted row is 0 or a snapshot of the bucket.
  pub deleted : (volume bucket key : List ℕ) (owner local : ℕ)
      → IsSome (all (keys.Deleted volume bucket owner key local)) → owner ≢ 0
      → IsSome (all (keys.Snapshot volume bucket owner))
  -- The owner of a renamed row is 0 or a snapshot of the bucket.
  pub renamed : (volume bucket : List ℕ) (owner local : ℕ)
      → IsSome (all (keys.Renamed volume bucket owner local)) → owner ≢ 0
      → IsSome (all (keys.Snapshot volume bucket owner))
  -- A snapshot key has its snapshot.
  pub snapshot_keys : (volume bucket key : List ℕ) (number : ℕ)
      → IsSome (all (keys.SnapshotKey volume bucket number key)) → IsSome (all (keys.Snapshot volume bucket number))

-- How many there may be.
pub record CountsAreSound (all : Rows) : Type 0 where
  -- The buckets of a volume keep to their limit.
  pub buckets : (volume : List ℕ) → AtMost MOST_BUCKETS (λ bucket. IsSome (all (keys.Bucket volume bucket)))
  -- The keys and the sessions of a bucket keep to theirs together.
  pub keys_and_sessions : (volume bucket : List ℕ) → AtMost MOST_KEYS (IsUsing all volume bucket)
  -- The live snapshots of a bucket keep to theirs.
  pub snapshots : (volume bucket : List ℕ) → AtMost MOST_SNAPSHOTS (IsLive all volume bucket)
  -- A live snapshot has no more keys than a bucket may have.
  pub snapshot_keys : (volume bucket : List ℕ) (number : ℕ)
      → IsLive all volume bucket number
      → AtMost MOST_KEYS (λ key. IsSome (all (keys.SnapshotKey volume bucket number key)))

-- all of these
pub record IsSound (all : Rows) : Type 0 where
  pub blocks : BlocksAreSound all
  pub names : NamesAreSound all
  pub renames : RenamesAreSound all
  pub numbers : NumbersAreSound all
  pub counts : CountsAreSound all

-- All of these but what renamed rows say, which no request writes yet.
pub record IsSoundButRenames (all : Rows) : Type 0 where
  pub blocks : BlocksAreSound all
  pub names : NamesAreSound all
  pub numbers : NumbersAreSound all
  pub counts : CountsAreSound all
