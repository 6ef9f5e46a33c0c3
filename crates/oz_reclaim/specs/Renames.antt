-- A key gets another name: what becomes of its row, and of the renamed rows of its blocks.
use Rattle.std.specs.Prelude.{◌≡◌, ◌≢◌, ◌⊎◌, ℕ, false, List, None, Some, IsSome}
use Rattle.oz_fields.specs.declared.block.Block.{Block}
use Rattle.oz_rows.specs.declared.key.RowKey.{RowKey}
use Rattle.oz_rows.specs.declared.key.RowKey.TheVariants as keys
use Rattle.oz_rows.specs.declared.row.Row.TheVariants as rows
use Rattle.oz_rows.specs.Rows.{kind_of}
use Rattle.oz_rows.specs.RowMaps.{Rows, is_same}
use Rattle.oz_sound.specs.Sound.{SnapshotHas, StandsIn}

-- neither a key's row nor a renamed one
abbrev pub IsBeside : RowKey → Type 0
IsBeside (keys.Key volume bucket key) = ⊥
IsBeside (keys.Renamed volume bucket owner local) = ⊥
IsBeside (keys.Volume volume) = Unit {0}
IsBeside (keys.Bucket volume bucket) = Unit {0}
IsBeside (keys.Open volume bucket key number) = Unit {0}
IsBeside (keys.Deleted volume bucket owner key local) = Unit {0}
IsBeside (keys.Snapshot volume bucket number) = Unit {0}
IsBeside (keys.SnapshotKey volume bucket snapshot key) = Unit {0}
IsBeside (keys.Stripe stripe) = Unit {0}

-- the renamed row of a block of the key comes, which the bucket itself owns, and has the key's old name
pub record NotesName (all now : Rows) (volume bucket key : List ℕ) (place : RowKey) : Type 0 where
  pub block : Block
  pub stands : StandsIn all block (keys.Key volume bucket key)
  pub its_place : place ≡ keys.Renamed volume bucket 0 block.local
  pub none_before : all place ≡ None
  pub row : now place ≡ Some (rows.Renamed key)

-- The key's row is that of the new name, which no key had. The old name is noted for blocks of the key where it isn't yet,
-- and for each that a live snapshot has it is there.
pub record KeyRenamed (all now : Rows) (volume bucket key to : List ℕ) : Type 0 where
  pub beside : (place : RowKey) → IsBeside place → now place ≡ all place
  pub gone : now (keys.Key volume bucket key) ≡ None
  pub free : all (keys.Key volume bucket to) ≡ None
  pub moved : now (keys.Key volume bucket to) ≡ all (keys.Key volume bucket key)
  pub others : (of_volume of_bucket name : List ℕ)
      → is_same (keys.Key volume bucket key) (keys.Key of_volume of_bucket name) ≡ false
      → is_same (keys.Key volume bucket to) (keys.Key of_volume of_bucket name) ≡ false
      → now (keys.Key of_volume of_bucket name) ≡ all (keys.Key of_volume of_bucket name)
  pub renamed : (of_volume of_bucket : List ℕ) (owner local : ℕ)
      → (now (keys.Renamed of_volume of_bucket owner local) ≡ all (keys.Renamed of_volume of_bucket owner local))
      ⊎ NotesName all now volume bucket key (keys.Renamed of_volume of_bucket owner local)
  pub noted : (block : Block) (number : ℕ) (name : List ℕ) → StandsIn all block (keys.Key volume bucket key)
      → SnapshotHas all volume bucket number block name → IsSome (now (keys.Renamed volume bucket 0 block.local))

-- Renamed rows come, which a bucket itself owns, and nothing else changes but what names they have.
pub record NamesNoted (all now : Rows) : Type 0 where
  pub others : (place : RowKey) → kind_of place ≢ 8 → now place ≡ all place
  pub owners : (volume bucket : List ℕ) (owner local : ℕ) → IsSome (now (keys.Renamed volume bucket owner local))
      → IsSome (all (keys.Renamed volume bucket owner local)) ⊎ (owner ≡ 0)
