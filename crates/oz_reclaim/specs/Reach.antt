-- Which blocks are in reach, told by rows.
use Rattle.std.specs.Prelude.{◌≡◌, Bool, true, false}
use Rattle.oz_decision.specs.Walking.{is_live}
use Rattle.oz_fields.specs.declared.block.Block.{Block}
use Rattle.oz_rows.specs.declared.key.RowKey.{RowKey}
use Rattle.oz_rows.specs.declared.key.RowKey.TheVariants as keys
use Rattle.oz_rows.specs.RowMaps.{Rows}
use Rattle.oz_sound.specs.Sound.{StandsIn}

-- What the row names is in reach: that is so of the rows of keys, of sessions, and of the keys of live snapshots.
abbrev pub is_shown : Rows → RowKey → Bool
is_shown all (keys.Key volume bucket key) = true
is_shown all (keys.Open volume bucket key number) = true
is_shown all (keys.SnapshotKey volume bucket snapshot key) = is_live (all (keys.Snapshot volume bucket snapshot))
is_shown all (keys.Volume volume) = false
is_shown all (keys.Bucket volume bucket) = false
is_shown all (keys.Deleted volume bucket owner key local) = false
is_shown all (keys.Snapshot volume bucket number) = false
is_shown all (keys.Renamed volume bucket owner local) = false
is_shown all (keys.Stripe stripe) = false

-- the block stands in such a row
pub record IsShown (all : Rows) (block : Block) : Type 0 where
  pub key : RowKey
  pub shown : is_shown all key ≡ true
  pub stands : StandsIn all block key
