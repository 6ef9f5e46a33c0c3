use Rattle.std.proofs.Common.{◌≡◌}
use Rattle.oz_locks.specs.Stripe.{IsAtRest}
use Rattle.oz_om.proofs.deciding.decide.Given as goal

-- the stripe is at rest between two tries, and the asker's seat is as it was
abbrev pub invariant-loop : goal.invariant-loop
invariant-loop g l = record {
  can_next : (goal.iterator-loop g).can_next l.iterator';
  finite : (goal.iterator-loop g).is_finite l.iterator';
  rests : IsAtRest g.L.Loaded.last_index g.L.Loaded.coherent g.L.Loaded.keeps l.stripe;
  same : l.seat ≡ l.fn.seat;
}
