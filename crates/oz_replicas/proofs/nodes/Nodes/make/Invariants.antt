use Rattle.std.proofs.Common.{◌≡◌, ◌+◌, ◌≤◌, length, vec_capacity}
use Rattle.oz_replicas.proofs.nodes.Nodes.make.Given as goal

-- those that are left are as many as aren't locked yet
abbrev pub invariant-loop-cell : goal.invariant-loop-cell
invariant-loop-cell g l = record {
  count : length l.locks.items + length l.parts.items ≡ length l.fn.parts.items;
  room : length l.fn.parts.items ≤ vec_capacity l.locks;
}

abbrev pub decreases-loop-cell : goal.decreases-loop-cell
decreases-loop-cell g l = length l.parts.items
