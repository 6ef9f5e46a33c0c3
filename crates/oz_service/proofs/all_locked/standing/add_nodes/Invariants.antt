use Rattle.std.proofs.Common.{◌≡◌, ◌++◌, map, take}
use Rattle.std.specs.Sync.Mutex.{mutex_guard_value}
use Rattle.oz_service.specs.AllLocked.{node_still}
use Rattle.oz_service.proofs.all_locked.standing.add_nodes.Given as goal

-- those of the datanodes so far are added
abbrev pub invariant-loop-guard : goal.invariant-loop-guard
invariant-loop-guard g l = l.stills.items ≡ l.fn.stills.items ++ map (λ guard. node_still l.place (mutex_guard_value guard)) (take l.guard-index l.nodes)
