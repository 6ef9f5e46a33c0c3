use Rattle.std.proofs.Common.{rules, subst, sym}
use Rattle.oz_core.specs.declared.event.Event.{Event}
use Rattle.oz_locks.specs.Pool.{GrantFits}
use Rattle.oz_locks.proofs.Pools.{count_next, pool_next, room_for_next}
use Rattle.oz_locks.proofs.pool.add_granted.Goals as goal

pub add_those_in-requires : goal.add_those_in-requires
add_those_in-requires c =
    let kept = c.loop-event.invariant in
    record { room = room_for_next _ _ _ _ _ _ _ c.event-item.is c.loop-event-test.true kept.count kept.room }

pub loop-event-preserved : goal.loop-event-preserved
loop-event-preserved c =
    let kept = c.loop-event.invariant in
    let added = c.add_those_in.ensures in record {
      items = λ fit.
          let fits = subst (λ (e : Event). GrantFits e.kind) (sym c.event-item.is) (fit c.loop-event.event-index c.event-item.result c.loop-event-test.true) in
          pool_next _ _ _ _ _ _ _ c.event-item.is c.loop-event-test.true (kept.items fit) (added.items fits);
      count = count_next _ _ _ _ _ _ _ c.event-item.is c.loop-event-test.true kept.count added.length;
      room = search rules;
    }
