-- For calls inside this crate alone.

-- What the row of a key has to be where the key is changed.
use Rattle.std.specs.Prelude.{◌≡◌, ℕ, ◌<◌, ◌^◌, Bool, true, false, ◌&&◌, nat_lt, nat_le, List, length, Option, None, Some, IsSome}
use Rattle.std.specs.List.{list_all}
use Rattle.oz_decision.specs.Sessions.{is_good}
use Rattle.oz_fields.specs.declared.block.Piece.{Piece}
use Rattle.oz_fields.specs.declared.block.TheConstants.{LONGEST_PIECE}
use Rattle.oz_names.specs.declared.limits.TheConstants.{MOST_BLOCKS}
use Rattle.oz_requests.specs.declared.reply.Reply.{Reply}
use Rattle.oz_requests.specs.declared.reply.Reply.TheVariants as replies
use Rattle.oz_requests.specs.declared.request.Request.{Request}
use Rattle.oz_requests.specs.declared.request.Request.TheVariants.{DeleteKey, RenameKey}
use Rattle.oz_rows.specs.declared.key.RowKey.TheVariants as keys
use Rattle.oz_rows.specs.declared.row.Row.{Row}
use Rattle.oz_rows.specs.declared.row.Row.TheVariants as rows
use Rattle.oz_rows.specs.RowMaps.{Rows}

-- a piece as rows may have it
abbrev pub is_good_piece : Piece → Bool
is_good_piece piece = is_good piece.block && (nat_lt 0 piece.length && nat_le piece.length LONGEST_PIECE)

abbrev pub are_good_pieces : List Piece → Bool
are_good_pieces pieces = nat_le (length pieces) MOST_BLOCKS && list_all is_good_piece pieces

-- the row of a key that keeps the rules of rows
abbrev pub is_key : Option Row → Bool
is_key (Some (rows.Key number pieces)) = nat_lt 0 number && are_good_pieces pieces
is_key row = false

-- the number in the row of a key
abbrev pub number_at : Option Row → ℕ
number_at (Some (rows.Key number pieces)) = number
number_at row = 0

-- the key is there, in a bucket that is, and its row keeps the rules
pub record IsKey (all : Rows) (volume bucket key : List ℕ) : Type 0 where
  pub bucket_there : IsSome (all (keys.Bucket volume bucket))
  pub key_there : is_key (all (keys.Key volume bucket key)) ≡ true
  pub small : number_at (all (keys.Key volume bucket key)) < 2 ^ 64

-- and no key has the new name
pub record MayRename (all : Rows) (volume bucket key to : List ℕ) : Type 0 where
  pub is : IsKey all volume bucket key
  pub free : all (keys.Key volume bucket to) ≡ None

-- what is done is done to such a key
abbrev pub MayRecordChange : Rows → Request → Reply → Type 0
MayRecordChange all (DeleteKey volume bucket key) replies.Done = IsKey all volume bucket key
MayRecordChange all (RenameKey volume bucket key to) replies.Done = MayRename all volume bucket key to
MayRecordChange all request reply = Unit {0}
