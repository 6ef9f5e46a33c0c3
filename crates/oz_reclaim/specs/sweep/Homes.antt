-- Which dead row has a block.
use Rattle.std.specs.Prelude.{◌≡◌, Bool, true, false, not, List, [], map, flat_map, Option, None, Some}
use Rattle.std.specs.List.{AllByRecursion, list_any}
use Rattle.oz_effects.specs.changes.Steps.{block_order}
use Rattle.oz_fields.specs.declared.block.Block.{Block}
use Rattle.oz_reclaim.specs.declared.sweep.homes.Home.{Home}
use Rattle.oz_rows.specs.declared.entry.RowEntry.{RowEntry}
use Rattle.oz_rows.specs.declared.key.RowKey.{RowKey}
use Rattle.oz_rows.specs.declared.operation.Change.{Change}
use Rattle.oz_rows.specs.declared.row.Row.{Row}
use Rattle.oz_rows.specs.declared.row.Row.TheVariants as rows
use Rattle.oz_rows.specs.RowMaps.{is_block, is_same, row_of}
use Rattle.oz_sorted.specs.declared.entry.Entry.{Entry}
use Rattle.oz_sorted.specs.Sorted.{value_of}

-- keys of rows, each under a block
abbrev pub Keys : Type 0
Keys = List (Entry Block RowKey)

abbrev pub home_of : Keys → Block → Option RowKey
home_of keys block = value_of block_order keys block

-- the blocks of a deleted row
abbrev pub blocks_at : Option Row → List Block
blocks_at None = []
blocks_at (Some (rows.Deleted blocks)) = blocks
blocks_at (Some rows.Volume) = []
blocks_at (Some rows.Bucket) = []
blocks_at (Some (rows.Key number pieces)) = []
blocks_at (Some (rows.Open blocks)) = []
blocks_at (Some (rows.Snapshot name previous state)) = []
blocks_at (Some (rows.SnapshotKey number pieces)) = []
blocks_at (Some (rows.Renamed key)) = []
blocks_at (Some (rows.Stripe number)) = []

abbrev pub has_block : Block → Option Row → Bool
has_block block row = list_any (is_block block) (blocks_at row)

-- each block of a dead row has the row's key
abbrev pub AreHomes : List RowEntry → Keys → Type 0
AreHomes dead keys = (key : RowKey) (block : Block) → has_block block (row_of dead key) ≡ true → home_of keys block ≡ Some key

-- For private calls: the blocks of rows that come.
abbrev pub home : RowKey → Block → Home
home key block = record { block = block; key = key }

abbrev pub homes_in : Change → List Home
homes_in change = map (home change.key) (blocks_at change.row)

-- one of the changes is that of a row that has the block
abbrev pub is_left : List RowEntry → List Change → Block → Bool
is_left dead changes block = list_any (λ (change : Change). has_block block (row_of dead change.key)) changes

-- the block has another key
abbrev pub is_others : Option RowKey → RowKey → Bool
is_others None key = false
is_others (Some other) key = not (is_same other key)

-- blocks have the keys that they had, and those that came too
pub record Enters (others : List Home) (before now : Keys) : Type 0 where
  pub kept : (block : Block) (key : RowKey) → home_of before block ≡ Some key → home_of now block ≡ Some key
  pub entered : AllByRecursion (λ (one : Home). home_of now one.block ≡ Some one.key) others
