use Rattle.std.proofs.Common.{◌≡◌, ◌+◌, ◌≤◌, length, vec_capacity}
use Rattle.oz_names.specs.declared.limits.TheConstants.{STRIPES}
use Rattle.oz_locks.specs.Stripe.{AreInOrder}
use Rattle.oz_locks.proofs.stripes.Stripes.into_parts.Given as goal

-- so many have left, in order
abbrev pub invariant-loop-lock : goal.invariant-loop-lock
invariant-loop-lock g l = record {
  order : AreInOrder g.L.Loaded.last_index g.L.Loaded.coherent g.L.Loaded.keeps l.parts.items;
  count : length l.locks.items + length l.parts.items ≡ STRIPES;
  room : STRIPES ≤ vec_capacity l.parts;
}

abbrev pub decreases-loop-lock : goal.decreases-loop-lock
decreases-loop-lock g l = length l.locks.items
