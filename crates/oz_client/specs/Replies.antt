-- What the manager may reply to a request.
use Rattle.std.specs.Prelude.{ℕ, Bool, true, false, ◌||◌, ◌&&◌, nat_le, nat_lt, List, [], length}
use Rattle.oz_core.specs.Steps.{is_code, is_done}
use Rattle.oz_fields.specs.declared.block.Piece.{Piece}
use Rattle.oz_nodes.specs.Pipelines.{pipelines_of}
use Rattle.oz_requests.specs.declared.request.Request.{Request}
use Rattle.oz_requests.specs.declared.request.Request.TheVariants as requests
use Rattle.oz_requests.specs.declared.reply.Reply.{Reply}
use Rattle.oz_requests.specs.declared.reply.Reply.TheVariants as replies
use Rattle.oz_client.specs.declared.kinds.ReplyKind.{ReplyKind}
use Rattle.oz_client.specs.declared.kinds.ReplyKind.TheVariants as kinds

-- the kind of the reply to a request that isn't refused
abbrev pub kind_for : Request → ReplyKind
kind_for (requests.CreateVolume volume) = kinds.Done
kind_for (requests.InfoVolume volume) = kinds.Count
kind_for (requests.DeleteVolume volume) = kinds.Done
kind_for (requests.CreateBucket volume bucket) = kinds.Done
kind_for (requests.InfoBucket volume bucket) = kinds.Counts
kind_for (requests.DeleteBucket volume bucket) = kinds.Done
kind_for (requests.ListBuckets volume) = kinds.Names
kind_for (requests.CreateKey volume bucket key) = kinds.Session
kind_for (requests.AllocateBlock volume bucket key session exclude) = kinds.Granted
kind_for (requests.CommitKey volume bucket key session pieces) = kinds.Done
kind_for (requests.DeleteKey volume bucket key) = kinds.Done
kind_for (requests.RenameKey volume bucket key to) = kinds.Done
kind_for (requests.LookupKey volume bucket snapshot key) = kinds.Pieces
kind_for (requests.ListKeys volume bucket snapshot prefix start count) = kinds.Names
kind_for (requests.ExpireOpen volume bucket) = kinds.Count
kind_for (requests.CreateSnapshot volume bucket snapshot) = kinds.Done
kind_for (requests.DeleteSnapshot volume bucket snapshot) = kinds.Done
kind_for (requests.ListSnapshots volume bucket) = kinds.Names
kind_for (requests.InfoSnapshot volume bucket snapshot) = kinds.Count
kind_for (requests.Purge volume rows) = kinds.Done
kind_for (requests.MoveDeleted volume bucket number to) = kinds.Done
kind_for (requests.PurgeSnapshot volume bucket number) = kinds.Done

-- a reply is of a kind
abbrev pub is_count : Reply → Bool
is_count (replies.Count count) = true
is_count _ = false

abbrev pub is_counts : Reply → Bool
is_counts (replies.Counts counts) = true
is_counts _ = false

abbrev pub is_names : Reply → Bool
is_names (replies.Names names) = true
is_names _ = false

abbrev pub is_session : Reply → Bool
is_session (replies.Session number) = true
is_session _ = false

abbrev pub is_granted : Reply → Bool
is_granted (replies.Granted block pipeline) = true
is_granted _ = false

abbrev pub is_pieces : Reply → Bool
is_pieces (replies.Pieces pieces) = true
is_pieces _ = false

abbrev pub is_of_kind : ReplyKind → Reply → Bool
is_of_kind kinds.Done reply = is_done reply
is_of_kind kinds.Count reply = is_count reply
is_of_kind kinds.Counts reply = is_counts reply
is_of_kind kinds.Names reply = is_names reply
is_of_kind kinds.Session reply = is_session reply
is_of_kind kinds.Granted reply = is_granted reply
is_of_kind kinds.Pieces reply = is_pieces reply

-- A block is on one of the pipelines, and a key has no more pieces than two bytes can count.
abbrev pub is_on_pipeline : ℕ → Reply → Bool
is_on_pipeline nodes (replies.Granted block pipeline) = nat_lt pipeline (pipelines_of nodes)
is_on_pipeline nodes _ = true

abbrev pub pieces_of_reply : Reply → List Piece
pieces_of_reply (replies.Pieces pieces) = pieces
pieces_of_reply _ = []

abbrev pub has_few_pieces : Reply → Bool
has_few_pieces reply = nat_le (length (pieces_of_reply reply)) 65536

-- a reply of this kind may come back, or a code
abbrev pub may_reply : ReplyKind → ℕ → Reply → Bool
may_reply kind nodes reply =
    (is_code reply || is_of_kind kind reply) && (is_on_pipeline nodes reply && has_few_pieces reply)
