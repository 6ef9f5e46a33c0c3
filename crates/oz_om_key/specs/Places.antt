-- For calls inside this crate alone.

-- Which rows show the keys that are asked for: those of the bucket itself, or of one of its snapshots.
use Rattle.std.specs.Prelude.{◌≡◌, ℕ, Bool, false, List, [], ◌∷◌, Option, None, Some, if◌then◌else◌}
use Rattle.std.specs.FinMap.{get}
use Rattle.oz_fields.specs.declared.block.Piece.{Piece}
use Rattle.oz_model.specs.Buckets.{is_same_name}
use Rattle.oz_namespace.specs.Namespace.{ByName}
use Rattle.oz_om_key.specs.declared.place.Source.{Source}
use Rattle.oz_om_key.specs.declared.place.Source.TheVariants as sources
use Rattle.oz_rows.specs.declared.key.RowKey.{RowKey}
use Rattle.oz_rows.specs.declared.key.RowKey.TheVariants as keys
use Rattle.oz_rows.specs.declared.row.Row.{Row}
use Rattle.oz_rows.specs.declared.row.Row.TheVariants as values
use Rattle.oz_rows.specs.declared.row.SnapshotState.TheVariants.{Live}
use Rattle.oz_rows.specs.RowMaps.{Rows}
use Rattle.oz_sound.specs.StandsFor.{pieces_in}

-- what names the row of a key
abbrev pub place_of : List ℕ → List ℕ → Source → List ℕ → RowKey
place_of volume bucket sources.Bucket key = keys.Key volume bucket key
place_of volume bucket (sources.Snapshot number) key = keys.SnapshotKey volume bucket number key

-- the keys with their pieces are those that the rows have
abbrev pub ShowKeys : Rows → List ℕ → List ℕ → Source → ByName (List Piece) → Type 0
ShowKeys rows volume bucket source keys =
    (key : List ℕ) → get keys key ≡ pieces_in (rows (place_of volume bucket source key))

-- the keys that are asked for stand in these rows, or none are there
abbrev pub IsAsked : Rows → List ℕ → List ℕ → Option (ByName (List Piece)) → Option Source → Type 0
IsAsked rows volume bucket asked None = asked ≡ None
IsAsked rows volume bucket asked (Some source) =
    (keys : ByName (List Piece)) × (asked ≡ Some keys) × ShowKeys rows volume bucket source keys

-- the row of a live snapshot of this name
abbrev pub is_named : Option Row → List ℕ → Bool
is_named (Some (values.Snapshot other previous Live)) name = is_same_name other name
is_named row name = false

abbrev pub number_in : RowKey → ℕ
number_in (keys.Snapshot volume bucket number) = number
number_in key = 0

-- the first of these keys whose row is that of a live snapshot of the name
abbrev pub first_named : Rows → List RowKey → List ℕ → Option Source
first_named rows [] name = None
first_named rows (key ∷ others) name =
    if is_named (rows key) name then Some (sources.Snapshot (number_in key)) else first_named rows others name
