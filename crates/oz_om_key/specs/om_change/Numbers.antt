-- For calls inside this crate alone.

-- Whose snapshot a key is, and which renamed rows keep the rules of rows.
use Rattle.std.specs.Prelude.{ℕ, ◌&&◌, List, if◌then◌else◌}
use Rattle.oz_fields.specs.declared.block.Block.{Block}
use Rattle.oz_model.specs.Buckets.{is_same_name}
use Rattle.oz_rows.specs.declared.key.RowKey.{RowKey}
use Rattle.oz_rows.specs.declared.key.RowKey.TheVariants as keys
use Rattle.oz_rows.specs.declared.row.Row.TheVariants as rows
use Rattle.oz_rows.specs.Rows.{RowFits}

-- the number of a snapshot of the bucket, 0 for all other keys
abbrev pub number_of : List ℕ → List ℕ → RowKey → ℕ
number_of volume bucket (keys.Snapshot of_volume of_bucket number) =
    if is_same_name of_volume volume && is_same_name of_bucket bucket then number else 0
number_of volume bucket (keys.Volume of_volume) = 0
number_of volume bucket (keys.Bucket of_volume of_bucket) = 0
number_of volume bucket (keys.Key of_volume of_bucket key) = 0
number_of volume bucket (keys.Open of_volume of_bucket key number) = 0
number_of volume bucket (keys.Deleted of_volume of_bucket owner key local) = 0
number_of volume bucket (keys.SnapshotKey of_volume of_bucket snapshot key) = 0
number_of volume bucket (keys.Renamed of_volume of_bucket owner local) = 0
number_of volume bucket (keys.Stripe stripe) = 0

-- the renamed row of the block keeps the rules
abbrev pub MayBeNoted : List ℕ → List ℕ → List ℕ → Block → Type 0
MayBeNoted volume bucket key block = RowFits (keys.Renamed volume bucket 0 block.local) (rows.Renamed key)
