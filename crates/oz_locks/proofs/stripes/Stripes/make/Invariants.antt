use Rattle.std.proofs.Common.{◌≡◌, ◌+◌, ◌≤◌, length, vec_capacity}
use Rattle.oz_names.specs.declared.limits.TheConstants.{STRIPES}
use Rattle.oz_locks.specs.Stripe.{AreInOrder}
use Rattle.oz_locks.proofs.stripes.Stripes.make.Given as goal

-- the stripes that are left are in order, and the others are locked
abbrev pub invariant-loop-stripe : goal.invariant-loop-stripe
invariant-loop-stripe g l = record {
  left : AreInOrder g.L.Loaded.last_index g.L.Loaded.coherent g.L.Loaded.keeps l.parts.items;
  count : length l.locks.items + length l.parts.items ≡ STRIPES;
  room : STRIPES ≤ vec_capacity l.locks;
  kept : STRIPES ≤ vec_capacity l.parts;
}

abbrev pub decreases-loop-stripe : goal.decreases-loop-stripe
decreases-loop-stripe g l = length l.parts.items
