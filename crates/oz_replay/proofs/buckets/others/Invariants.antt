use Rattle.std.proofs.Common.{◌≡◌, filter, take, not}
use Rattle.oz_namespace.specs.declared.namespace.Snapshot.{Snapshot}
use Rattle.oz_model.specs.Buckets.{is_same_name}
use Rattle.oz_replay.proofs.buckets.others.Given as goal

abbrev pub invariant-loop-snapshot : goal.invariant-loop-snapshot
invariant-loop-snapshot l = l.found.items ≡ filter (λ (it : Snapshot). not (is_same_name it.name l.name)) (take l.snapshot-index l.snapshots)
