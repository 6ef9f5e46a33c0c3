use Rattle.std.proofs.Common.{rules, subst}
use Rattle.oz_locks.specs.Stripe.{AreInOrder}
use Rattle.oz_locks.proofs.Listed.{front_in_order, last_in_order}
use Rattle.oz_locks.proofs.stripes.Stripes.make.Goals as goal

pub of-requires : goal.of-requires
of-requires g c = (last_in_order _ _ _ _ _ (subst (AreInOrder _ _ _) c.in-Some.ensures.items c.loop-stripe.invariant.left)).1

pub loop-stripe-preserved : goal.loop-stripe-preserved
loop-stripe-preserved g c = record {
  left = front_in_order _ _ _ _ _ (subst (AreInOrder _ _ _) c.in-Some.ensures.items c.loop-stripe.invariant.left);
  count = search rules;
  room = search rules;
  kept = search rules;
}
