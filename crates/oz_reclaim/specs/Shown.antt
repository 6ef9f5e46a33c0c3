-- For calls inside this crate alone.

-- Which rows of those that were gathered show a block.
use Rattle.std.specs.Prelude.{◌≡◌, ◌⊎◌, ◌↔◌, ℕ, Bool, true, ◌&&◌}
use Rattle.std.specs.List.{list_any}
use Rattle.oz_fields.specs.declared.block.Block.{Block}
use Rattle.oz_rows.specs.declared.entry.RowEntry.{RowEntry}
use Rattle.oz_rows.specs.declared.key.RowKey.{RowKey}
use Rattle.oz_rows.specs.Rows.{kind_of}
use Rattle.oz_rows.specs.RowMaps.{Rows, is_block}
use Rattle.oz_sound.specs.Sound.{StandsIn, blocks_of}
use Rattle.oz_reclaim.specs.Reach.{is_shown}

-- the entry's row shows the block
abbrev pub shows : Rows → Block → RowEntry → Bool
shows all block entry = is_shown all entry.key && list_any (is_block block) (blocks_of entry.row)

-- a row of this kind shows the block
pub record IsShownByKind (all : Rows) (kind : ℕ) (block : Block) : Type 0 where
  pub key : RowKey
  pub its_kind : kind_of key ≡ kind
  pub shown : is_shown all key ≡ true
  pub stands : StandsIn all block key

-- the block is held now where it was held before, or where a row of this kind shows it
abbrev pub IsShownIn : Rows → ℕ → Block → Bool → Bool → Type 0
IsShownIn all kind block before now = (now ≡ true) ↔ ((before ≡ true) ⊎ IsShownByKind all kind block)
