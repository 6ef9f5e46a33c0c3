-- The key fields in two parts, for the private calls that write them.
use Rattle.std.specs.Prelude.{ℕ, List, [], ◌++◌}
use Rattle.oz_fields.specs.Number.{u8_bytes, u64_bytes}
use Rattle.oz_fields.specs.Text.{text_bytes}
use Rattle.oz_rows.specs.declared.key.RowKey.{RowKey}
use Rattle.oz_rows.specs.declared.key.RowKey.TheVariants as keys

-- what the key stands in
abbrev pub place_bytes : RowKey → List ℕ
place_bytes (keys.Volume volume) = text_bytes volume
place_bytes (keys.Bucket volume bucket) = text_bytes volume ++ text_bytes bucket
place_bytes (keys.Key volume bucket key) = text_bytes volume ++ text_bytes bucket
place_bytes (keys.Open volume bucket key number) = text_bytes volume ++ text_bytes bucket
place_bytes (keys.Deleted volume bucket owner key local) = text_bytes volume ++ text_bytes bucket
place_bytes (keys.Snapshot volume bucket number) = text_bytes volume ++ text_bytes bucket
place_bytes (keys.SnapshotKey volume bucket snapshot key) = text_bytes volume ++ text_bytes bucket
place_bytes (keys.Renamed volume bucket owner local) = text_bytes volume ++ text_bytes bucket
place_bytes (keys.Stripe stripe) = u8_bytes stripe

-- and what follows
abbrev pub rest_bytes : RowKey → List ℕ
rest_bytes (keys.Volume volume) = []
rest_bytes (keys.Bucket volume bucket) = []
rest_bytes (keys.Key volume bucket key) = text_bytes key
rest_bytes (keys.Open volume bucket key number) = text_bytes key ++ u64_bytes number
rest_bytes (keys.Deleted volume bucket owner key local) = u64_bytes owner ++ text_bytes key ++ u64_bytes local
rest_bytes (keys.Snapshot volume bucket number) = u64_bytes number
rest_bytes (keys.SnapshotKey volume bucket snapshot key) = u64_bytes snapshot ++ text_bytes key
rest_bytes (keys.Renamed volume bucket owner local) = u64_bytes owner ++ u64_bytes local
rest_bytes (keys.Stripe stripe) = []
