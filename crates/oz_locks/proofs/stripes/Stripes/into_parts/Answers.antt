use Rattle.std.proofs.Common.{rules, ◌≡◌, length, sym, subst}
use Rattle.oz_locks.specs.Stripe.{AreInOrder}
use Rattle.oz_locks.proofs.Listed.{more_in_order}
use Rattle.oz_locks.proofs.stripes.Stripes.into_parts.Goals as goal

pub loop-lock-preserved : goal.loop-lock-preserved
loop-lock-preserved g c =
    let made = c.numbered-stripe.ensures in
    let number : c.numbered-stripe.result.number ≡ length c.loop-lock.parts.items = search rules in record {
      order = subst (AreInOrder _ _ _) (sym c.push_reserved.ensures.items) (more_in_order _ _ _ _ _ c.loop-lock.invariant.order number made.rests);
      count = search rules;
      room = search rules;
    }
