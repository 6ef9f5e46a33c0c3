-- What is counted of rows as they are loaded.
use Rattle.std.specs.Prelude.{◌≡◌, ◌⊎◌, ℕ, ◌≤◌, max, true, List, [], ◌∷◌, flat_map, Option, None, Some}
use Rattle.std.specs.List.{list_any}
use Rattle.oz_fields.specs.declared.block.Block.{Block}
use Rattle.oz_rows.specs.declared.entry.RowEntry.{RowEntry}
use Rattle.oz_rows.specs.declared.key.RowKey.{RowKey}
use Rattle.oz_rows.specs.declared.key.RowKey.TheVariants as keys
use Rattle.oz_rows.specs.declared.row.Row.{Row}
use Rattle.oz_rows.specs.declared.row.Row.TheVariants as rows
use Rattle.oz_rows.specs.RowMaps.{Rows, is_block}
use Rattle.oz_sound.specs.Sound.{blocks_of}
use Rattle.oz_store.specs.Store.{local_in}

-- the blocks of a deleted row
abbrev pub deleted_blocks : RowKey → Row → List Block
deleted_blocks (keys.Deleted volume bucket owner key local) (rows.Deleted blocks) = blocks
deleted_blocks key row = []

-- the blocks of all deleted rows, in the order of the rows
abbrev pub left_in : List RowEntry → List Block
left_in all = flat_map (λ (entry : RowEntry). deleted_blocks entry.key entry.row) all

-- a block that the row names has this local id, or the row's key does
abbrev pub HasId : RowKey → Row → ℕ → Type 0
HasId key row id =
    ((block : Block) × (list_any (is_block block) (blocks_of row) ≡ true) × (block.local ≡ id)) ⊎ (local_in key ≡ Some id)

-- the greatest local id in any row, 0 where there is none
pub record IsGreatestId (all : Rows) (id : ℕ) : Type 0 where
  pub none_above : (key : RowKey) (row : Row) (other : ℕ) → all key ≡ Some row → HasId key row other → other ≤ id
  pub reached : (id ≡ 0) ⊎ ((key : RowKey) × (row : Row) × (all key ≡ Some row) × HasId key row id)

-- For private calls: the same by a walk.
abbrev pub greatest_local : List Block → ℕ
greatest_local [] = 0
greatest_local (block ∷ blocks) = max block.local (greatest_local blocks)

abbrev pub or_none : Option ℕ → ℕ
or_none None = 0
or_none (Some id) = id

abbrev pub greatest_of : RowEntry → ℕ
greatest_of entry = max (or_none (local_in entry.key)) (greatest_local (blocks_of entry.row))

abbrev pub greatest_in : List RowEntry → ℕ
greatest_in [] = 0
greatest_in (entry ∷ entries) = max (greatest_of entry) (greatest_in entries)
