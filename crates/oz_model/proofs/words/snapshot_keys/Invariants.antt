use Rattle.std.proofs.Common.{◌≡◌, drop}
use Rattle.oz_model.specs.Buckets.{snapshot_keys}
use Rattle.oz_model.proofs.words.snapshot_keys.Given as goal

abbrev pub invariant-loop-snapshot : goal.invariant-loop-snapshot
invariant-loop-snapshot l = snapshot_keys (drop l.snapshot-index l.snapshots) l.name ≡ snapshot_keys l.snapshots l.name
