-- A session that becomes a key, a key that becomes a deleted row, and a session that gets a block.
use Rattle.std.specs.Prelude.{◌≡◌, ℕ, List, map, None, Some}
use Rattle.std.specs.List.{list_any}
use Rattle.oz_fields.specs.declared.block.Block.{Block}
use Rattle.oz_fields.specs.declared.block.Piece.{Piece}
use Rattle.oz_rows.specs.declared.key.RowKey.{RowKey}
use Rattle.oz_rows.specs.declared.key.RowKey.TheVariants as keys
use Rattle.oz_rows.specs.declared.row.Row.TheVariants as rows
use Rattle.oz_rows.specs.RowMaps.{Rows, is_block}
use Rattle.oz_sound.specs.Sound.{StandsIn}

abbrev pub blocks_in : List Piece → List Block
blocks_in pieces = map (λ (piece : Piece). piece.block) pieces

-- the rows of stripes have no blocks
abbrev pub StripesAreBare : Rows → Type 0
StripesAreBare all = (stripe : ℕ) (block : Block) → StandsIn all block (keys.Stripe stripe) → ⊥

-- The session is there and its key isn't, and the pieces stand in the session's blocks, in each of them.
pub record MayBecome (all : Rows) (volume bucket key : List ℕ) (number : ℕ) (blocks : List Block) (pieces : List Piece) : Type 0 where
  pub session : all (keys.Open volume bucket key number) ≡ Some (rows.Open blocks)
  pub free : all (keys.Key volume bucket key) ≡ None
  pub used : (block : Block) → list_any (is_block block) (blocks_in pieces) ≡ list_any (is_block block) blocks
  pub bare : StripesAreBare all

-- the key is there, and no deleted row of it that begins with this block
pub record MayBeDeleted (all : Rows) (volume bucket key : List ℕ) (number local : ℕ) (pieces : List Piece) : Type 0 where
  pub row : all (keys.Key volume bucket key) ≡ Some (rows.Key number pieces)
  pub free : all (keys.Deleted volume bucket 0 key local) ≡ None
  pub bare : StripesAreBare all

-- the session is there, and no block has the local id of the new one
pub record MayGet (all : Rows) (volume bucket key : List ℕ) (number : ℕ) (blocks : List Block) (new : Block) : Type 0 where
  pub session : all (keys.Open volume bucket key number) ≡ Some (rows.Open blocks)
  pub fresh : (twin : Block) (key : RowKey) → StandsIn all twin key → twin.local ≡ new.local → ⊥
  pub bare : StripesAreBare all
