-- Which blocks stand somewhere, before rows change and after.
use Rattle.std.specs.Prelude.{◌≡◌, ◌⊎◌, Option, Some}
use Rattle.oz_fields.specs.declared.block.Block.{Block}
use Rattle.oz_rows.specs.declared.key.RowKey.{RowKey}
use Rattle.oz_rows.specs.RowMaps.{Rows}
use Rattle.oz_sound.specs.Sound.{StandsIn, IsHome}

-- the block stands in the row of a key, of an open key or of a deleted key
pub record HasHome (all : Rows) (block : Block) : Type 0 where
  pub key : RowKey
  pub home : IsHome key
  pub here : StandsIn all block key

-- No block is lost but those that may go, and none is made but the one that is granted.
pub record KeepsBlocks (all now : Rows) (granted : Option Block) (MayGo : Block → Type 0) : Type 0 where
  pub none_lost : (block : Block) → HasHome all block → HasHome now block ⊎ MayGo block
  pub none_made : (block : Block) → HasHome now block → HasHome all block ⊎ (granted ≡ Some block)
