-- Which namespace rows stand for: its maps, one clause a map.
use Rattle.std.specs.Prelude.{◌≡◌, ◌↔◌, ℕ, ◌<◌, ◌==◌, Bool, true, List, [], ◌∷◌, map, Option, None, Some, is_some}
use Rattle.std.specs.List.{AllByRecursion, list_any}
use Rattle.std.specs.FinMap.{get}
use Rattle.oz_fields.specs.declared.block.Piece.{Piece}
use Rattle.oz_namespace.specs.declared.namespace.Namespace.{Namespace}
use Rattle.oz_namespace.specs.declared.namespace.Session.{Session}
use Rattle.oz_namespace.specs.declared.namespace.Snapshot.{Snapshot}
use Rattle.oz_namespace.specs.Namespace.{sixteen, has_volume, has_bucket, pieces_of, session_of, snapshots_of}
use Rattle.oz_rows.specs.declared.key.RowKey.TheVariants as keys
use Rattle.oz_rows.specs.declared.row.Row.{Row}
use Rattle.oz_rows.specs.declared.row.Row.TheVariants as rows
use Rattle.oz_rows.specs.declared.row.SnapshotState.TheVariants.{Live}
use Rattle.oz_rows.specs.RowMaps.{Rows}

-- the pieces that a key row or a snapshot key row has
abbrev pub pieces_in : Option Row → Option (List Piece)
pieces_in (Some (rows.Key number pieces)) = Some pieces
pieces_in (Some (rows.SnapshotKey number pieces)) = Some pieces
pieces_in (Some rows.Volume) = None
pieces_in (Some rows.Bucket) = None
pieces_in (Some (rows.Open blocks)) = None
pieces_in (Some (rows.Deleted blocks)) = None
pieces_in (Some (rows.Snapshot name previous state)) = None
pieces_in (Some (rows.Renamed key)) = None
pieces_in (Some (rows.Stripe number)) = None
pieces_in None = None

-- how many numbers a stripe row says were drawn, 0 where there is none
abbrev pub drawn_in : Option Row → ℕ
drawn_in (Some (rows.Stripe number)) = number
drawn_in row = 0

-- a snapshot of the bucket that isn't marked has this number
abbrev pub IsLive : Rows → List ℕ → List ℕ → ℕ → Type 0
IsLive all volume bucket number =
    (name : List ℕ) × (previous : ℕ)
    × (all (keys.Snapshot volume bucket number) ≡ Some (rows.Snapshot name previous Live))

-- the snapshot of a number: its name, and its copy of the keys
pub record IsSnapshot (all : Rows) (volume bucket : List ℕ) (number : ℕ) (snapshot : Snapshot) : Type 0 where
  pub previous : ℕ
  pub row : all (keys.Snapshot volume bucket number) ≡ Some (rows.Snapshot snapshot.name previous Live)
  pub pieces : (key : List ℕ) → get snapshot.keys key ≡ pieces_in (all (keys.SnapshotKey volume bucket number key))

-- one after another, the snapshots of these numbers
abbrev pub AreSnapshots : Rows → List ℕ → List ℕ → List ℕ → List Snapshot → Type 0
AreSnapshots all volume bucket [] [] = Unit {0}
AreSnapshots all volume bucket (number ∷ numbers) (snapshot ∷ snapshots) =
    IsSnapshot all volume bucket number snapshot × AreSnapshots all volume bucket numbers snapshots
AreSnapshots all volume bucket [] (snapshot ∷ snapshots) = ⊥
AreSnapshots all volume bucket (number ∷ numbers) [] = ⊥

-- each number is below those behind it
abbrev pub NumbersRise : List ℕ → Type 0
NumbersRise [] = Unit {0}
NumbersRise (number ∷ numbers) = AllByRecursion (λ other. number < other) numbers × NumbersRise numbers

-- the number is one of the list
abbrev pub is_among : ℕ → List ℕ → Bool
is_among number numbers = list_any (λ other. other == number) numbers

-- the live snapshots of a bucket, in the order of their numbers
pub record SnapshotsStand (all : Rows) (volume bucket : List ℕ) (snapshots : List Snapshot) : Type 0 where
  pub numbers : List ℕ
  pub rise : NumbersRise numbers
  pub every : (number : ℕ) → IsLive all volume bucket number → is_among number numbers ≡ true
  pub each : AreSnapshots all volume bucket numbers snapshots

-- A session is an open row of its number, under its key.
abbrev pub SessionStands : Rows → Namespace → List ℕ → List ℕ → ℕ → Session → Type 0
SessionStands all namespace volume bucket number session =
    (session_of namespace volume bucket number ≡ Some session)
    ↔ (all (keys.Open volume bucket session.key number) ≡ Some (rows.Open session.blocks))

-- The rows stand for the namespace. Deleted rows, renamed rows, marked snapshots and what these keep are in no
-- namespace.
pub record StandsFor (all : Rows) (namespace : Namespace) : Type 0 where
  pub volumes : (volume : List ℕ) → has_volume namespace volume ≡ is_some (all (keys.Volume volume))
  pub buckets : (volume bucket : List ℕ)
      → has_bucket namespace volume bucket ≡ is_some (all (keys.Bucket volume bucket))
  pub pieces : (volume bucket key : List ℕ)
      → pieces_of namespace volume bucket key ≡ pieces_in (all (keys.Key volume bucket key))
  pub sessions : (volume bucket : List ℕ) (number : ℕ) (session : Session)
      → SessionStands all namespace volume bucket number session
  pub snapshots : (volume bucket : List ℕ) → SnapshotsStand all volume bucket (snapshots_of namespace volume bucket)
  pub stripes : namespace.stripes ≡ map (λ stripe. drawn_in (all (keys.Stripe stripe))) sixteen
