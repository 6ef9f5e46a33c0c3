-- Which crate decides a request.
use Rattle.std.specs.Prelude.{Bool, true, false, nat_le, length, if◌then◌else◌}
use Rattle.oz_om.specs.declared.decider.decider.Decider.{Decider}
use Rattle.oz_om.specs.declared.decider.decider.Decider.TheVariants.{Buckets, Reading, Changing, Opening, Granting}
use Rattle.oz_om.specs.declared.decider.decider.Decider.TheVariants.{Committing, Snapshots, Reclaiming, Nobody}
use Rattle.oz_requests.specs.declared.request.Request.{Request}
use Rattle.oz_requests.specs.declared.request.Request.TheVariants.{CreateVolume, InfoVolume, DeleteVolume, CreateBucket}
use Rattle.oz_requests.specs.declared.request.Request.TheVariants.{InfoBucket, DeleteBucket, ListBuckets, CreateKey}
use Rattle.oz_requests.specs.declared.request.Request.TheVariants.{AllocateBlock, CommitKey, DeleteKey, RenameKey}
use Rattle.oz_requests.specs.declared.request.Request.TheVariants.{LookupKey, ListKeys, ExpireOpen, CreateSnapshot}
use Rattle.oz_requests.specs.declared.request.Request.TheVariants.{DeleteSnapshot, ListSnapshots, InfoSnapshot, Purge}
use Rattle.oz_requests.specs.declared.request.Request.TheVariants.{MoveDeleted, PurgeSnapshot}
use Rattle.oz_rows.specs.declared.operation.TheConstants.{MOST_REMOVALS}

-- a Purge that names more rows than may be removed at a time is decided by none
abbrev pub decider_of : Request → Decider
decider_of (CreateVolume volume) = Buckets
decider_of (InfoVolume volume) = Buckets
decider_of (DeleteVolume volume) = Buckets
decider_of (CreateBucket volume bucket) = Buckets
decider_of (InfoBucket volume bucket) = Buckets
decider_of (DeleteBucket volume bucket) = Buckets
decider_of (ListBuckets volume) = Buckets
decider_of (CreateKey volume bucket key) = Opening
decider_of (AllocateBlock volume bucket key session exclude) = Granting
decider_of (CommitKey volume bucket key session pieces) = Committing
decider_of (DeleteKey volume bucket key) = Changing
decider_of (RenameKey volume bucket key to) = Changing
decider_of (LookupKey volume bucket snapshot key) = Reading
decider_of (ListKeys volume bucket snapshot prefix start count) = Reading
decider_of (ExpireOpen volume bucket) = Opening
decider_of (CreateSnapshot volume bucket snapshot) = Snapshots
decider_of (DeleteSnapshot volume bucket snapshot) = Snapshots
decider_of (ListSnapshots volume bucket) = Snapshots
decider_of (InfoSnapshot volume bucket snapshot) = Snapshots
decider_of (Purge volume rows) = if nat_le (length rows) MOST_REMOVALS then Reclaiming else Nobody
decider_of (MoveDeleted volume bucket number to) = Reclaiming
decider_of (PurgeSnapshot volume bucket number) = Reclaiming

-- no picked block is needed
abbrev pub decides_alone : Decider → Bool
decides_alone Buckets = true
decides_alone Reading = true
decides_alone Changing = true
decides_alone Opening = true
decides_alone Committing = true
decides_alone Snapshots = true
decides_alone Reclaiming = true
decides_alone Granting = false
decides_alone Nobody = false
