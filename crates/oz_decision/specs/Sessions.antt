-- What the row of a session has to be where the session is asked for.
use Rattle.std.specs.Prelude.{◌≡◌, ℕ, ◌<◌, ◌^◌, Bool, true, false, ◌&&◌, nat_le, nat_lt, List, [], length, Option, Some, IsSome}
use Rattle.std.specs.List.{list_all}
use Rattle.oz_fields.specs.declared.block.Block.{Block}
use Rattle.oz_names.specs.declared.limits.TheConstants.{MOST_BLOCKS}
use Rattle.oz_rows.specs.declared.key.RowKey.TheVariants as keys
use Rattle.oz_rows.specs.declared.row.Row.{Row}
use Rattle.oz_rows.specs.declared.row.Row.TheVariants as rows
use Rattle.oz_rows.specs.Reading.{is_block_number}
use Rattle.oz_rows.specs.RowMaps.{Rows}

-- the blocks of a session's row
abbrev pub blocks_at : Option Row → List Block
blocks_at (Some (rows.Open blocks)) = blocks
blocks_at row = []

-- the numbers of a block are as those of blocks have to be
abbrev pub is_good : Block → Bool
is_good block = is_block_number block.container && is_block_number block.local

abbrev pub are_good : List Block → Bool
are_good blocks = nat_le (length blocks) MOST_BLOCKS && list_all is_good blocks

-- the row of a session of this number that keeps the rules of rows
abbrev pub is_open : ℕ → Option Row → Bool
is_open number (Some (rows.Open blocks)) = nat_lt 0 number && are_good blocks
is_open number row = false

-- the session is there, in a bucket that is
pub record IsOpen (all : Rows) (volume bucket key : List ℕ) (number : ℕ) : Type 0 where
  pub bucket_there : IsSome (all (keys.Bucket volume bucket))
  pub session_there : is_open number (all (keys.Open volume bucket key number)) ≡ true
  pub small : number < 2 ^ 64
