-- What the buckets of a volume have: how many keys, bytes of these and snapshots.
use Rattle.std.specs.Prelude.{ℕ, ◌+◌, List, [], length, Option, None, Some}
use Rattle.std.specs.FinMap.{len, values}
use Rattle.std.specs.List.{sum_by}
use Rattle.oz_fields.specs.declared.block.Piece.{Piece}
use Rattle.oz_namespace.specs.declared.namespace.Bucket.{Bucket}
use Rattle.oz_namespace.specs.declared.namespace.Namespace.{Namespace}
use Rattle.oz_namespace.specs.Namespace.{ByName, buckets_of}
use Rattle.oz_rows.specs.declared.row.Row.{Row}
use Rattle.oz_sound.specs.StandsFor.{pieces_in}
use Rattle.oz_om.specs.declared.tally.Tally.{Tally}

-- how many bytes a key has, and all keys of a bucket
abbrev pub length_of : List Piece → ℕ
length_of pieces = sum_by (λ (piece : Piece). piece.length) pieces

abbrev pub bytes_in : Bucket → ℕ
bytes_in bucket = sum_by length_of (values bucket.keys)

-- the buckets of a volume, none where there is no such volume
abbrev pub buckets_in : Option (ByName Bucket) → List Bucket
buckets_in None = []
buckets_in (Some buckets) = values buckets

-- what these buckets have together: the keys that are there now, their bytes, and the snapshots
abbrev pub tally_in : List Bucket → Tally
tally_in buckets = record {
  keys = sum_by (λ (bucket : Bucket). len bucket.keys) buckets;
  bytes = sum_by bytes_in buckets;
  snapshots = sum_by (λ (bucket : Bucket). length bucket.snapshots) buckets;
}

abbrev pub tally_of : Namespace → List ℕ → Tally
tally_of namespace volume = tally_in (buckets_in (buckets_of namespace volume))

-- ---- for private calls

-- what one has and another
abbrev pub together : Tally → Tally → Tally
together one other = record {
  keys = one.keys + other.keys;
  bytes = one.bytes + other.bytes;
  snapshots = one.snapshots + other.snapshots;
}

abbrev pub length_or_none : Option (List Piece) → ℕ
length_or_none None = 0
length_or_none (Some pieces) = length_of pieces

-- how many bytes a key's row has, none where it isn't there
abbrev pub bytes_at : Option Row → ℕ
bytes_at row = length_or_none (pieces_in row)
