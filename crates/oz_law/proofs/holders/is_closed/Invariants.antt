use Rattle.std.proofs.Common.{◌≡◌, take}
use Rattle.oz_core.specs.Nodes.{closed_after, was_closed}
use Rattle.oz_core.specs.Stories.{last_told}
use Rattle.oz_law.proofs.holders.is_closed.Given as goal

abbrev pub invariant-loop-event : goal.invariant-loop-event
invariant-loop-event l = l.closed ≡ last_told (closed_after l.dn l.container) (was_closed l.fn.opening l.dn l.container) (take l.event-index l.fn.story)
