use Rattle.std.proofs.Common.{◌≡◌, ◌+◌, ◌≤◌, ◌++◌, All, length, take, vec_capacity}
use Rattle.oz_core.specs.declared.event.Event.{Event}
use Rattle.oz_locks.specs.Pool.{GrantFits, blocks_granted}
use Rattle.oz_locks.proofs.pool.add_granted.Given as goal

-- the blocks of the events that were looked at were put behind the pool
abbrev pub invariant-loop-event : goal.invariant-loop-event
invariant-loop-event l = record {
  items : All (λ (event : Event). GrantFits event.kind) l.events → l.pool.items ≡ l.fn.pool.items ++ blocks_granted l.stripe (take l.event-index l.events);
  count : length l.pool.items ≡ length l.fn.pool.items + length (blocks_granted l.stripe (take l.event-index l.events));
  room : length l.fn.pool.items + length (blocks_granted l.stripe l.events) ≤ vec_capacity l.pool;
}
