-- The row of a key, and the deleted row of blocks that a key has left.
use Rattle.std.specs.Prelude.{ℕ, Bool, true, ◌&&◌, nat_le, List, [], ◌∷◌, length, Option, Some}
use Rattle.std.specs.List.{list_all}
use Rattle.oz_fields.specs.declared.block.Block.{Block}
use Rattle.oz_fields.specs.declared.block.Piece.{Piece}
use Rattle.oz_model.specs.Reach.{blocks_of}
use Rattle.oz_names.specs.declared.limits.TheConstants.{MOST_BLOCKS}
use Rattle.oz_rows.specs.declared.key.RowKey.TheVariants as keys
use Rattle.oz_rows.specs.declared.operation.Change.{Change}
use Rattle.oz_rows.specs.declared.row.Row.{Row}
use Rattle.oz_rows.specs.declared.row.Row.TheVariants as rows
use Rattle.oz_rows.specs.RowMaps.{put}
use Rattle.oz_decision.specs.Sessions.{is_good}

-- the blocks of a key's row
abbrev pub version_at : Option Row → List Block
version_at (Some (rows.Key number pieces)) = blocks_of pieces
version_at row = []

-- pieces as rows may have them stand in blocks whose numbers are as those of blocks have to be
abbrev pub have_good : List Piece → Bool
have_good pieces = nat_le (length pieces) MOST_BLOCKS && list_all (λ (piece : Piece). is_good piece.block) pieces

-- the row of a key, if there is one, keeps the rules of rows in its blocks
abbrev pub is_version : Option Row → Bool
is_version (Some (rows.Key number pieces)) = have_good pieces
is_version row = true

-- blocks that a key has left stand in a deleted row of the bucket itself, where there are any
abbrev pub deleted : List ℕ → List ℕ → List ℕ → List Block → List Change
deleted volume bucket key [] = []
deleted volume bucket key (first ∷ others) =
    put (keys.Deleted volume bucket 0 key first.local) (rows.Deleted (first ∷ others)) ∷ []
