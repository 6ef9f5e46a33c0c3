-- How long the batches of requests may be.
use Rattle.std.specs.Prelude.{ℕ, ◌*◌}
use Rattle.oz_requests.specs.declared.request.Request.{Request}
use Rattle.oz_requests.specs.declared.request.Request.TheVariants.{CreateVolume, InfoVolume, DeleteVolume, CreateBucket}
use Rattle.oz_requests.specs.declared.request.Request.TheVariants.{InfoBucket, DeleteBucket, ListBuckets, CreateKey}
use Rattle.oz_requests.specs.declared.request.Request.TheVariants.{AllocateBlock, CommitKey, DeleteKey, RenameKey}
use Rattle.oz_requests.specs.declared.request.Request.TheVariants.{LookupKey, ListKeys, ExpireOpen, CreateSnapshot}
use Rattle.oz_requests.specs.declared.request.Request.TheVariants.{DeleteSnapshot, ListSnapshots, InfoSnapshot, Purge}
use Rattle.oz_requests.specs.declared.request.Request.TheVariants.{MoveDeleted, PurgeSnapshot}
use Rattle.oz_rows.specs.declared.operation.TheConstants.{LONGEST_OPERATION}

-- how many operations there are at most
abbrev pub most_operations : Request → ℕ
most_operations (CreateVolume volume) = 4
most_operations (InfoVolume volume) = 4
most_operations (DeleteVolume volume) = 4
most_operations (CreateBucket volume bucket) = 4
most_operations (InfoBucket volume bucket) = 4
most_operations (DeleteBucket volume bucket) = 4
most_operations (ListBuckets volume) = 4
most_operations (CreateKey volume bucket key) = 4
most_operations (AllocateBlock volume bucket key session exclude) = 4
most_operations (CommitKey volume bucket key session pieces) = 4
most_operations (DeleteKey volume bucket key) = 258
most_operations (RenameKey volume bucket key to) = 258
most_operations (LookupKey volume bucket snapshot key) = 4
most_operations (ListKeys volume bucket snapshot prefix start count) = 4
most_operations (ExpireOpen volume bucket) = 4
most_operations (CreateSnapshot volume bucket snapshot) = 4
most_operations (DeleteSnapshot volume bucket snapshot) = 4
most_operations (ListSnapshots volume bucket) = 4
most_operations (InfoSnapshot volume bucket snapshot) = 4
most_operations (Purge volume rows) = 1026
most_operations (MoveDeleted volume bucket number to) = 4
most_operations (PurgeSnapshot volume bucket number) = 4

-- so many of the longest
abbrev pub most_bytes : Request → ℕ
most_bytes request = most_operations request * LONGEST_OPERATION
