use Rattle.std.proofs.Common.{◌≡◌, take}
use Rattle.oz_core.specs.Nodes.{held_after, was_held}
use Rattle.oz_core.specs.Scm.{logs}
use Rattle.oz_core.specs.Stories.{last_told}
use Rattle.oz_law.proofs.holders.holds.Given as goal

abbrev pub invariant-loop-event : goal.invariant-loop-event
invariant-loop-event l = l.held ≡ last_told (held_after (logs l.fn.opening l.fn.story) l.dn l.block) (was_held l.fn.opening l.dn l.block) (take l.event-index l.fn.story)
