use Rattle.oz_rows.specs.declared.key.RowKey.TheVariants as keys
use Rattle.oz_effects.specs.declared.parts.Part.TheVariants as parts
use Rattle.oz_effects.proofs.First.{made_first, first_of_all_keys, first_bucket, first_key, first_session, first_deleted, first_snapshot, first_snapshot_key, first_renamed}
use Rattle.oz_effects.proofs.parts.first_key.Goals as goal

pub returns-in-AllKeys : goal.returns-in-AllKeys
returns-in-AllKeys c = made_first c.args.part parts.AllKeys c.args.volume.now c.args.bucket.now c.in_ok-none.none (λ none. keys.Key none none none) c.of_key.result c.in-AllKeys.is c.in_ok-none.ensures (first_of_all_keys c.args.volume.now c.args.bucket.now) c.of_key.ensures

pub returns-in-Buckets : goal.returns-in-Buckets
returns-in-Buckets c = made_first c.args.part parts.Buckets c.args.volume.now c.args.bucket.now c.in_ok-none.none (λ none. keys.Bucket c.args.volume.now none) c.of_bucket.result c.in-Buckets.is c.in_ok-none.ensures (first_bucket c.args.volume.now c.args.bucket.now) c.of_bucket.ensures

pub returns-in-Keys : goal.returns-in-Keys
returns-in-Keys c = made_first c.args.part parts.Keys c.args.volume.now c.args.bucket.now c.in_ok-none.none (λ none. keys.Key c.args.volume.now c.args.bucket.now none) c.of_key-in-Keys.result c.in-Keys.is c.in_ok-none.ensures (first_key c.args.volume.now c.args.bucket.now) c.of_key-in-Keys.ensures

pub returns-in-Sessions : goal.returns-in-Sessions
returns-in-Sessions c = made_first c.args.part parts.Sessions c.args.volume.now c.args.bucket.now c.in_ok-none.none (λ none. keys.Open c.args.volume.now c.args.bucket.now none 0) c.of_session.result c.in-Sessions.is c.in_ok-none.ensures (first_session c.args.volume.now c.args.bucket.now) c.of_session.ensures

pub returns-in-Deleted : goal.returns-in-Deleted
returns-in-Deleted c = made_first c.args.part parts.Deleted c.args.volume.now c.args.bucket.now c.in_ok-none.none (λ none. keys.Deleted c.args.volume.now c.args.bucket.now 0 none 0) c.of_deleted.result c.in-Deleted.is c.in_ok-none.ensures (first_deleted c.args.volume.now c.args.bucket.now) c.of_deleted.ensures

pub returns-in-Snapshots : goal.returns-in-Snapshots
returns-in-Snapshots c = made_first c.args.part parts.Snapshots c.args.volume.now c.args.bucket.now c.in_ok-none.none (λ none. keys.Snapshot c.args.volume.now c.args.bucket.now 0) c.of_snapshot.result c.in-Snapshots.is c.in_ok-none.ensures (first_snapshot c.args.volume.now c.args.bucket.now) c.of_snapshot.ensures

pub returns-in-SnapshotKeys : goal.returns-in-SnapshotKeys
returns-in-SnapshotKeys c = made_first c.args.part parts.SnapshotKeys c.args.volume.now c.args.bucket.now c.in_ok-none.none (λ none. keys.SnapshotKey c.args.volume.now c.args.bucket.now 0 none) c.of_snapshot_key.result c.in-SnapshotKeys.is c.in_ok-none.ensures (first_snapshot_key c.args.volume.now c.args.bucket.now) c.of_snapshot_key.ensures

pub returns : goal.returns
returns c = made_first c.args.part parts.Renamed c.args.volume.now c.args.bucket.now c.in_ok-none.none (λ none. keys.Renamed c.args.volume.now c.args.bucket.now 0 0) c.of_renamed.result c.in-Renamed.is c.in_ok-none.ensures (first_renamed c.args.volume.now c.args.bucket.now) c.of_renamed.ensures
