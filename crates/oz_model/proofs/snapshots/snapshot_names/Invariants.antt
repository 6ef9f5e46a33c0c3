use Rattle.std.proofs.Common.{◌≡◌, map, take}
use Rattle.oz_namespace.specs.declared.namespace.Snapshot.{Snapshot}
use Rattle.oz_model.proofs.snapshots.snapshot_names.Given as goal

abbrev pub invariant-loop-snapshot : goal.invariant-loop-snapshot
invariant-loop-snapshot l = l.names.items ≡ map (λ (it : Snapshot). it.name) (take l.snapshot-index l.snapshots)
