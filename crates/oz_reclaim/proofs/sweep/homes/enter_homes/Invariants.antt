use Rattle.std.proofs.Common.{◌≡◌, ◌≤◌, false, length}
use Rattle.oz_reclaim.specs.sweep.Homes.{Enters}
use Rattle.oz_reclaim.proofs.sweep.homes.enter_homes.Given as goal

abbrev pub invariant-loop-home : goal.invariant-loop-home
invariant-loop-home l = record {
  goes : (goal.iterator-loop-home).can_next l.home-iterator;
  ends : (goal.iterator-loop-home).is_finite l.home-iterator;
  entered : l.homes.is_shared ≡ false → (l.fn.homes.is_shared ≡ false) × Enters l.yielded l.fn.homes.keys.entries l.homes.keys.entries;
  room : length l.home-iterator.rest.items ≤ l.homes.keys.spare;
}
