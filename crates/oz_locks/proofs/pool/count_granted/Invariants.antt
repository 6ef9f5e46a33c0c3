use Rattle.std.proofs.Common.{◌≡◌, length, take}
use Rattle.oz_locks.specs.Pool.{blocks_granted}
use Rattle.oz_locks.proofs.pool.count_granted.Given as goal

-- those of the events that were looked at
abbrev pub invariant-loop-event : goal.invariant-loop-event
invariant-loop-event l = l.blocks ≡ length (blocks_granted l.stripe (take l.event-index l.events))
