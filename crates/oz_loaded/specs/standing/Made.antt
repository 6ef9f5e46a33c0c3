-- What is made of rows, one after another.
use Rattle.std.specs.Prelude.{ℕ, ◌==◌, List, [], ◌∷◌, Option, None, Some, is_some, if◌then◌else◌}
use Rattle.std.specs.List.{flat_map, fold}
use Rattle.std.specs.Ordering.{is_eq}
use Rattle.std.specs.declared.cmp.Ordering.{Ordering}
use Rattle.std.specs.FinMap.{FinMap, empty, insert}
use Rattle.oz_effects.specs.declared.parts.Part.{Part}
use Rattle.oz_effects.specs.declared.parts.Part.TheVariants as parts
use Rattle.oz_effects.specs.Parts.{front_of, part_order}
use Rattle.oz_fields.specs.declared.block.Piece.{Piece}
use Rattle.oz_namespace.specs.declared.namespace.Bucket.{Bucket}
use Rattle.oz_namespace.specs.declared.namespace.Session.{Session}
use Rattle.oz_namespace.specs.declared.namespace.Snapshot.{Snapshot}
use Rattle.oz_namespace.specs.Namespace.{ByName}
use Rattle.oz_rows.specs.declared.entry.RowEntry.{RowEntry}
use Rattle.oz_rows.specs.declared.key.RowKey.{RowKey}
use Rattle.oz_rows.specs.declared.key.RowKey.TheVariants as keys
use Rattle.oz_rows.specs.declared.row.Row.{Row}
use Rattle.oz_rows.specs.declared.row.Row.TheVariants as rows
use Rattle.oz_rows.specs.declared.row.SnapshotState.TheVariants.{Live}
use Rattle.oz_rows.specs.RowMaps.{row_of}
use Rattle.oz_sound.specs.StandsFor.{pieces_in}
use Rattle.oz_sound.specs.stripes.Parts.{part_of}

-- a value put into a map, where there is one
abbrev pub entered : {K V : Type 0} {R : K → K → Ordering} → FinMap R V → Option (K × V) → FinMap R V
entered made None = made
entered made (Some (key, value)) = insert made key value

-- the map of what is picked of each row, of which a later one goes before an earlier one
abbrev pub filled : {K V : Type 0} {R : K → K → Ordering} → (RowEntry → Option (K × V)) → List RowEntry
    → FinMap R V
filled pick all = fold (λ made entry. entered made (pick entry)) empty all

-- the name of a key, or of a key of this snapshot where one is given
abbrev pub name_shown : Option ℕ → RowKey → Option (List ℕ)
name_shown None (keys.Key volume bucket key) = Some key
name_shown (Some snapshot) (keys.SnapshotKey volume bucket number key) =
    if number == snapshot then Some key else None
name_shown snapshot key = None

-- a name and its pieces, where there are both
abbrev pub named : Option (List ℕ) → Option (List Piece) → Option (List ℕ × List Piece)
named (Some name) (Some pieces) = Some (name, pieces)
named name pieces = None

abbrev pub pieces_shown : Option ℕ → RowEntry → Option (List ℕ × List Piece)
pieces_shown snapshot entry = named (name_shown snapshot entry.key) (pieces_in (Some entry.row))

-- a session under its number
abbrev pub session_in : RowKey → Row → Option (ℕ × Session)
session_in (keys.Open volume bucket key number) (rows.Open blocks) =
    Some (number, record { key = key; blocks = blocks })
session_in key row = None

abbrev pub session_shown : RowEntry → Option (ℕ × Session)
session_shown entry = session_in entry.key entry.row

-- a live snapshot, with its keys out of those that are kept for snapshots
abbrev pub snapshot_in : List RowEntry → RowKey → Row → List Snapshot
snapshot_in kept (keys.Snapshot volume bucket number) (rows.Snapshot name previous Live) =
    record { name = name; keys = filled (pieces_shown (Some number)) kept } ∷ []
snapshot_in kept key row = []

abbrev pub snapshots_in_order : List RowEntry → List RowEntry → List Snapshot
snapshots_in_order kept all = flat_map (λ (entry : RowEntry). snapshot_in kept entry.key entry.row) all

-- the rows of a part, in order
abbrev pub rows_in : Part → List ℕ → List ℕ → List RowEntry → List RowEntry
rows_in part volume bucket all = part_of (λ (key : RowKey). is_eq (part_order (front_of part volume bucket) key)) all

-- a bucket of its rows
unfoldable pub bucket_made : List RowEntry → List ℕ → List ℕ → Bucket
bucket_made all volume bucket = record {
  keys = filled (pieces_shown None) (rows_in parts.Keys volume bucket all);
  sessions = filled session_shown (rows_in parts.Sessions volume bucket all);
  snapshots = snapshots_in_order (rows_in parts.SnapshotKeys volume bucket all)
      (rows_in parts.Snapshots volume bucket all);
}

-- a bucket under its name
abbrev pub bucket_in : List RowEntry → RowKey → Option (List ℕ × Bucket)
bucket_in all (keys.Bucket volume bucket) = Some (bucket, bucket_made all volume bucket)
bucket_in all key = None

abbrev pub bucket_shown : List RowEntry → RowEntry → Option (List ℕ × Bucket)
bucket_shown all entry = bucket_in all entry.key

-- the buckets of a volume
unfoldable pub buckets_made : List RowEntry → List ℕ → ByName Bucket
buckets_made all volume = filled (bucket_shown all) (rows_in parts.Buckets volume [] all)

-- a volume that has a row, under its name
abbrev pub volume_in : List RowEntry → RowKey → Option (List ℕ × ByName Bucket)
volume_in all (keys.Volume volume) =
    if is_some (row_of all (keys.Volume volume)) then Some (volume, buckets_made all volume) else None
volume_in all key = None
