-- The commands that ask once.
use Rattle.std.specs.Prelude.{Bool, true, false, ◌||◌, Option, None, Some}
use Rattle.oz_command.specs.declared.command.Command.{Command}
use Rattle.oz_command.specs.declared.command.Command.TheVariants as commands
use Rattle.oz_requests.specs.declared.request.Request.{Request}
use Rattle.oz_requests.specs.declared.request.Request.TheVariants as requests

-- the one request of a command that has one alone
abbrev pub single_of : Command → Option Request
single_of (commands.VolumeCreate volume) = Some (requests.CreateVolume volume)
single_of (commands.VolumeDelete volume) = Some (requests.DeleteVolume volume)
single_of (commands.VolumeInfo volume) = Some (requests.InfoVolume volume)
single_of (commands.BucketCreate volume bucket) = Some (requests.CreateBucket volume bucket)
single_of (commands.BucketDelete volume bucket) = Some (requests.DeleteBucket volume bucket)
single_of (commands.BucketInfo volume bucket) = Some (requests.InfoBucket volume bucket)
single_of (commands.BucketList volume) = Some (requests.ListBuckets volume)
single_of (commands.KeyPut volume bucket key payload) = None
single_of (commands.KeyOpen label volume bucket key payload) = None
single_of (commands.KeyCommit label) = None
single_of (commands.KeyGet volume bucket snapshot key) = Some (requests.LookupKey volume bucket snapshot key)
single_of (commands.KeyDelete volume bucket key) = Some (requests.DeleteKey volume bucket key)
single_of (commands.KeyRename volume bucket key to) = Some (requests.RenameKey volume bucket key to)
single_of (commands.KeyList volume bucket snapshot prefix start count) =
    Some (requests.ListKeys volume bucket snapshot prefix start count)
single_of (commands.KeyExpire volume bucket) = Some (requests.ExpireOpen volume bucket)
single_of (commands.SnapshotCreate volume bucket snapshot) = Some (requests.CreateSnapshot volume bucket snapshot)
single_of (commands.SnapshotDelete volume bucket snapshot) = Some (requests.DeleteSnapshot volume bucket snapshot)
single_of (commands.SnapshotInfo volume bucket snapshot) = Some (requests.InfoSnapshot volume bucket snapshot)
single_of (commands.SnapshotList volume bucket) = Some (requests.ListSnapshots volume bucket)
single_of (commands.Admin command) = None

-- Those on a volume, on a bucket, on its keys, and on its snapshots.
abbrev pub is_on_volume : Command → Bool
is_on_volume (commands.VolumeCreate volume) = true
is_on_volume (commands.VolumeDelete volume) = true
is_on_volume (commands.VolumeInfo volume) = true
is_on_volume (commands.BucketList volume) = true
is_on_volume _ = false

abbrev pub is_on_bucket : Command → Bool
is_on_bucket (commands.BucketCreate volume bucket) = true
is_on_bucket (commands.BucketDelete volume bucket) = true
is_on_bucket (commands.BucketInfo volume bucket) = true
is_on_bucket (commands.KeyExpire volume bucket) = true
is_on_bucket (commands.SnapshotList volume bucket) = true
is_on_bucket _ = false

abbrev pub is_on_key : Command → Bool
is_on_key (commands.KeyGet volume bucket snapshot key) = true
is_on_key (commands.KeyDelete volume bucket key) = true
is_on_key (commands.KeyRename volume bucket key to) = true
is_on_key (commands.KeyList volume bucket snapshot prefix start count) = true
is_on_key _ = false

abbrev pub is_on_snapshot : Command → Bool
is_on_snapshot (commands.SnapshotCreate volume bucket snapshot) = true
is_on_snapshot (commands.SnapshotDelete volume bucket snapshot) = true
is_on_snapshot (commands.SnapshotInfo volume bucket snapshot) = true
is_on_snapshot _ = false

abbrev pub asks_once : Command → Bool
asks_once command = is_on_volume command || is_on_bucket command || is_on_key command || is_on_snapshot command
