-- What a request on volumes and buckets records that isn't refused: one row that is put or goes. No other request is
-- decided here.
use Rattle.std.specs.Prelude.{List, [], ◌∷◌}
use Rattle.oz_requests.specs.declared.reply.Reply.{Reply}
use Rattle.oz_requests.specs.declared.reply.Reply.TheVariants as replies
use Rattle.oz_requests.specs.declared.request.Request.{Request}
use Rattle.oz_requests.specs.declared.request.Request.TheVariants.{CreateVolume, InfoVolume, DeleteVolume, CreateBucket}
use Rattle.oz_requests.specs.declared.request.Request.TheVariants.{InfoBucket, DeleteBucket, ListBuckets, CreateKey}
use Rattle.oz_requests.specs.declared.request.Request.TheVariants.{AllocateBlock, CommitKey, DeleteKey, RenameKey}
use Rattle.oz_requests.specs.declared.request.Request.TheVariants.{LookupKey, ListKeys, ExpireOpen, CreateSnapshot}
use Rattle.oz_requests.specs.declared.request.Request.TheVariants.{DeleteSnapshot, ListSnapshots, InfoSnapshot, Purge}
use Rattle.oz_requests.specs.declared.request.Request.TheVariants.{MoveDeleted, PurgeSnapshot}
use Rattle.oz_rows.specs.declared.key.RowKey.TheVariants as keys
use Rattle.oz_rows.specs.declared.row.Row.TheVariants as rows
use Rattle.oz_rows.specs.declared.operation.Change.{Change}
use Rattle.oz_rows.specs.RowMaps.{put, gone}

abbrev pub changes_for : Request → List Change
changes_for (CreateVolume volume) = put (keys.Volume volume) rows.Volume ∷ []
changes_for (DeleteVolume volume) = gone (keys.Volume volume) ∷ []
changes_for (CreateBucket volume bucket) = put (keys.Bucket volume bucket) rows.Bucket ∷ []
changes_for (DeleteBucket volume bucket) = gone (keys.Bucket volume bucket) ∷ []
changes_for (InfoVolume volume) = []
changes_for (InfoBucket volume bucket) = []
changes_for (ListBuckets volume) = []
changes_for (CreateKey volume bucket key) = []
changes_for (AllocateBlock volume bucket key session exclude) = []
changes_for (CommitKey volume bucket key session pieces) = []
changes_for (DeleteKey volume bucket key) = []
changes_for (RenameKey volume bucket key to) = []
changes_for (LookupKey volume bucket snapshot key) = []
changes_for (ListKeys volume bucket snapshot prefix start count) = []
changes_for (ExpireOpen volume bucket) = []
changes_for (CreateSnapshot volume bucket snapshot) = []
changes_for (DeleteSnapshot volume bucket snapshot) = []
changes_for (ListSnapshots volume bucket) = []
changes_for (InfoSnapshot volume bucket snapshot) = []
changes_for (Purge volume rows) = []
changes_for (MoveDeleted volume bucket number to) = []
changes_for (PurgeSnapshot volume bucket number) = []

-- nothing where the reply is a code
abbrev pub recorded_changes : Request → Reply → List Change
recorded_changes request (replies.Code code) = []
recorded_changes request reply = changes_for request
