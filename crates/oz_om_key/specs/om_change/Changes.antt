-- Which requests change a key that is there.
use Rattle.std.specs.Prelude.{ℕ, List}
use Rattle.oz_fields.specs.declared.block.Block.{Block}
use Rattle.oz_requests.specs.declared.request.Request.{Request}
use Rattle.oz_requests.specs.declared.request.Request.TheVariants.{DeleteKey, RenameKey}
use Rattle.oz_rows.specs.declared.key.RowKey.TheVariants as keys
use Rattle.oz_rows.specs.RowMaps.{Rows}
use Rattle.oz_sound.specs.Sound.{StandsIn, SnapshotHas}

-- a key is deleted, or it gets another name
abbrev pub IsChange : Request → Type 0
IsChange (DeleteKey volume bucket key) = Unit {0}
IsChange (RenameKey volume bucket key to) = Unit {0}
IsChange request = ⊥

-- no live snapshot of the bucket has a block of the key
abbrev pub IsInNoSnapshot : Rows → List ℕ → List ℕ → List ℕ → Type 0
IsInNoSnapshot all volume bucket key =
    (block : Block) (number : ℕ) (name : List ℕ)
    → StandsIn all block (keys.Key volume bucket key) → SnapshotHas all volume bucket number block name → ⊥
