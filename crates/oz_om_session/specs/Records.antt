-- What the requests on sessions record that aren't refused.
use Rattle.std.specs.Prelude.{List, ℕ, [], ◌∷◌, ◌++◌, not, filter, Option, Some}
use Rattle.oz_fields.specs.declared.block.Block.{Block}
use Rattle.oz_fields.specs.declared.block.Piece.{Piece}
use Rattle.oz_model.specs.Buckets.{has_block}
use Rattle.oz_model.specs.Reach.{blocks_of}
use Rattle.oz_requests.specs.declared.reply.Reply.{Reply}
use Rattle.oz_requests.specs.declared.reply.Reply.TheVariants as replies
use Rattle.oz_requests.specs.declared.request.Request.{Request}
use Rattle.oz_requests.specs.declared.request.Request.TheVariants.{AllocateBlock, CommitKey}
use Rattle.oz_rows.specs.declared.key.RowKey.TheVariants as keys
use Rattle.oz_rows.specs.declared.row.Row.{Row}
use Rattle.oz_rows.specs.declared.row.Row.TheVariants as rows
use Rattle.oz_rows.specs.declared.operation.Change.{Change}
use Rattle.oz_rows.specs.RowMaps.{Rows, put, gone}
use Rattle.oz_decision.specs.Sessions.{blocks_at}
use Rattle.oz_decision.specs.Versions.{version_at, deleted}

-- the session that a request is for has this block behind its others
abbrev pub changes_of_grant : Rows → Request → Block → List Change
changes_of_grant all (AllocateBlock volume bucket key session exclude) block =
    put (keys.Open volume bucket key session)
    (rows.Open (blocks_at (all (keys.Open volume bucket key session)) ++ block ∷ [])) ∷ []
changes_of_grant all request block = []

-- nothing where no block is granted
abbrev pub recorded_grant : Rows → Request → Reply → List Change
recorded_grant all request (replies.Granted block pipeline) = changes_of_grant all request block
recorded_grant all request reply = []

-- the blocks in which no piece stands
abbrev pub unused : List Block → List Piece → List Block
unused blocks pieces = filter (λ block. not (has_block (blocks_of pieces) block)) blocks

-- a key's older version, and what a session's pieces leave unused, become deleted rows
abbrev pub changes_of_left : List ℕ → List ℕ → List ℕ → Option Row → Option Row → List Piece → List Change
changes_of_left volume bucket key version session pieces =
    deleted volume bucket key (version_at version) ++ deleted volume bucket key (unused (blocks_at session) pieces)

-- then the session goes, and the key has the pieces
abbrev pub changes_of_commit : Rows → Request → List Change
changes_of_commit all (CommitKey volume bucket key session pieces) =
    changes_of_left volume bucket key (all (keys.Key volume bucket key))
    (all (keys.Open volume bucket key session)) pieces
    ++ gone (keys.Open volume bucket key session) ∷ put (keys.Key volume bucket key) (rows.Key session pieces) ∷ []
changes_of_commit all request = []

-- nothing where it isn't done
abbrev pub recorded_commit : Rows → Request → Reply → List Change
recorded_commit all request replies.Done = changes_of_commit all request
recorded_commit all request reply = []
