-- The summary of a generated load: what was asked, how many lines were told, and what the store has.
use Rattle.std.specs.Prelude.{ℕ, List, [], ◌∷◌, ◌++◌, codes, decimal, length, Option, None, Some}
use Rattle.std.specs.FinMap.{len, values}
use Rattle.std.specs.List.{sum_by}
use Rattle.oz_fields.specs.declared.block.Piece.{Piece}
use Rattle.oz_namespace.specs.declared.namespace.Bucket.{Bucket}
use Rattle.oz_namespace.specs.declared.namespace.Namespace.{Namespace}
use Rattle.oz_namespace.specs.Namespace.{ByName, buckets_of}
use Rattle.oz_report.specs.declared.summing.Tally.{Tally}

-- how many bytes a key has, and all keys of a bucket
abbrev pub length_of : List Piece → ℕ
length_of pieces = sum_by (λ (piece : Piece). piece.length) pieces

abbrev pub bytes_in : Bucket → ℕ
bytes_in bucket = sum_by length_of (values bucket.keys)

-- the buckets of a volume, none where there is no such volume
abbrev pub buckets_in : Option (ByName Bucket) → List Bucket
buckets_in None = []
buckets_in (Some buckets) = values buckets

-- what these buckets have together: the keys that are there now, their bytes, and the snapshots
abbrev pub tally_in : List Bucket → Tally
tally_in buckets = record {
  keys = sum_by (λ (bucket : Bucket). len bucket.keys) buckets;
  bytes = sum_by bytes_in buckets;
  snapshots = sum_by (λ (bucket : Bucket). length bucket.snapshots) buckets;
}

abbrev pub tally_of : Namespace → List ℕ → Tally
tally_of namespace volume = tally_in (buckets_in (buckets_of namespace volume))

-- the three lines: what was asked, how many lines there are and were told, and what there is
abbrev pub asked_text : ℕ → ℕ → List ℕ
asked_text number count = codes "freon " ++ decimal number ++ codes " " ++ decimal count ++ codes "\n"

abbrev pub lines_text : ℕ → ℕ → List ℕ
lines_text lines told = codes "lines " ++ decimal lines ++ codes " told " ++ decimal told ++ codes "\n"

abbrev pub amounts_text : ℕ → ℕ → List ℕ
amounts_text keys bytes = codes "keys " ++ decimal keys ++ codes " bytes " ++ decimal bytes

abbrev pub snapshots_text : ℕ → List ℕ
snapshots_text snapshots = codes " snapshots " ++ decimal snapshots ++ codes "\n"

abbrev pub summary_text : ℕ → ℕ → ℕ → ℕ → Tally → List ℕ
summary_text number count lines told tally =
    asked_text number count ++ lines_text lines told ++ amounts_text tally.keys tally.bytes ++ snapshots_text tally.snapshots
