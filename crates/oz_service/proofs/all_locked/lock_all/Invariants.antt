use Rattle.std.proofs.Common.{◌≡◌, ◌≤◌, length, map, vec_capacity}
use Rattle.std.specs.Sync.Mutex.{mutex_guard_value}
use Rattle.oz_replicas.specs.Cells.{AreInOrder}
use Rattle.oz_service.proofs.all_locked.lock_all.Given as goal

-- those that are locked are in order, and there is room for the rest
abbrev pub invariant-loop-dn : goal.invariant-loop-dn
invariant-loop-dn g l = record {
  count : length l.cells.items ≡ l.dn;
  room : l.count ≤ vec_capacity l.cells;
  order : AreInOrder (map mutex_guard_value l.cells.items);
}
