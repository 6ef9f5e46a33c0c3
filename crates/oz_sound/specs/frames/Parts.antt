-- One row of a key, an open key or a deleted key whose blocks are parted between it and another.
use Rattle.std.specs.Prelude.{◌≡◌, ◌≢◌, ◌⊎◌, ℕ, true, false, List, [], ◌∷◌, Option, Some, IsSome}
use Rattle.std.specs.List.{list_any}
use Rattle.oz_fields.specs.declared.block.Block.{Block}
use Rattle.oz_names.specs.declared.limits.TheConstants.{MOST_KEYS}
use Rattle.oz_rows.specs.declared.key.RowKey.{RowKey}
use Rattle.oz_rows.specs.declared.key.RowKey.TheVariants as keys
use Rattle.oz_rows.specs.declared.row.Row.{Row}
use Rattle.oz_rows.specs.declared.operation.Change.{Change}
use Rattle.oz_rows.specs.RowMaps.{Rows, is_same, is_block}
use Rattle.oz_sound.specs.Sound.{StandsIn, blocks_of, bucket_of_row, IsKeeper, IsHome, IsUsing, AtMost}

-- the first row becomes this and the second that
abbrev pub parted : RowKey → Option Row → RowKey → Option Row → List Change
parted from left to moved = record { key = from; row = left } ∷ record { key = to; row = moved } ∷ []

-- the row has the block
abbrev pub Has : Option Row → Block → Type 0
Has row block = (it : Row) × (row ≡ Some it) × (list_any (is_block block) (blocks_of it) ≡ true)

-- The blocks of the first row, and no others, stand in the two, none of them in both. A keeper's stay with keepers.
pub record IsParted (all : Rows) (from : RowKey) (left : Option Row) (to : RowKey) (moved : Option Row) : Type 0 where
  pub home : IsHome from
  pub new_home : IsHome to
  pub keeper : IsKeeper from → IsKeeper to
  pub same_bucket : bucket_of_row from ≡ bucket_of_row to
  pub apart : is_same from to ≡ false
  pub left_from : (block : Block) → Has left block → StandsIn all block from
  pub moved_from : (block : Block) → Has moved block → StandsIn all block from
  pub all_there : (block : Block) → StandsIn all block from → Has left block ⊎ Has moved block
  pub not_both : (block : Block) → Has left block → Has moved block → ⊥
  pub was_empty : (block : Block) → StandsIn all block to → ⊥

-- what else has to be so: names, numbers, and how many there are
pub record KeepsNumbers (all now : Rows) : Type 0 where
  pub bare : (stripe : ℕ) (block : Block) → StandsIn all block (keys.Stripe stripe) → ⊥
  pub open_key : (volume bucket key : List ℕ) (session : ℕ) (block : Block)
      → StandsIn now block (keys.Open volume bucket key session)
      → (number : ℕ) × StandsIn all block (keys.Open volume bucket key number)
  pub sessions : (volume bucket key : List ℕ) (number : ℕ)
      → IsSome (now (keys.Open volume bucket key number)) → IsSome (all (keys.Open volume bucket key number))
  pub owners : (volume bucket key : List ℕ) (owner local : ℕ)
      → IsSome (now (keys.Deleted volume bucket owner key local)) → owner ≢ 0
      → IsSome (all (keys.Deleted volume bucket owner key local))
  pub few : (volume bucket : List ℕ) → AtMost MOST_KEYS (IsUsing now volume bucket)
