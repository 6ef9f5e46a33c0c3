-- For calls inside this crate alone.

-- What the row of a session has to be where it gets a block or becomes a key.
use Rattle.std.specs.Prelude.{◌≡◌, ℕ, ◌<◌, Bool, true, ◌&&◌, List, length, Option}
use Rattle.oz_fields.specs.declared.block.Piece.{Piece}
use Rattle.oz_model.specs.Buckets.{are_pieces_of}
use Rattle.oz_names.specs.declared.limits.TheConstants.{MOST_BLOCKS}
use Rattle.oz_requests.specs.declared.reply.Reply.{Reply}
use Rattle.oz_requests.specs.declared.reply.Reply.TheVariants as replies
use Rattle.oz_requests.specs.declared.request.Request.{Request}
use Rattle.oz_requests.specs.declared.request.Request.TheVariants.{AllocateBlock, CommitKey}
use Rattle.oz_rows.specs.declared.key.RowKey.TheVariants as keys
use Rattle.oz_rows.specs.declared.row.Row.{Row}
use Rattle.oz_rows.specs.RowMaps.{Rows}
use Rattle.oz_decision.specs.Sessions.{IsOpen, blocks_at}
use Rattle.oz_decision.specs.Versions.{is_version}

-- and has room for a block more
pub record HasRoom (all : Rows) (volume bucket key : List ℕ) (number : ℕ) : Type 0 where
  pub is : IsOpen all volume bucket key number
  pub room : length (blocks_at (all (keys.Open volume bucket key number))) < MOST_BLOCKS

-- a grant is for such a session
abbrev pub MayRecordGrant : Rows → Request → Reply → Type 0
MayRecordGrant all (AllocateBlock volume bucket key session exclude) (replies.Granted block pipeline) =
    HasRoom all volume bucket key session
MayRecordGrant all request reply = Unit {0}

-- the pieces are such of the session's row, and the key's row keeps the rules
abbrev pub are_committed : Option Row → Option Row → List Piece → Bool
are_committed session version pieces = are_pieces_of (blocks_at session) pieces && is_version version

-- the session is there, and so are its blocks
pub record MayCommit (all : Rows) (volume bucket key : List ℕ) (number : ℕ) (pieces : List Piece) : Type 0 where
  pub is : IsOpen all volume bucket key number
  pub fit : are_committed (all (keys.Open volume bucket key number)) (all (keys.Key volume bucket key)) pieces ≡ true

-- a commit is done of such a session
abbrev pub MayRecordCommit : Rows → Request → Reply → Type 0
MayRecordCommit all (CommitKey volume bucket key session pieces) replies.Done =
    MayCommit all volume bucket key session pieces
MayRecordCommit all request reply = Unit {0}
