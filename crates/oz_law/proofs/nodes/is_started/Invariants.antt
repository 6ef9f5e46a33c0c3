use Rattle.std.proofs.Common.{◌≡◌, true, take}
use Rattle.oz_core.specs.Nodes.{stopped_or_started}
use Rattle.oz_core.specs.Stories.{last_told}
use Rattle.oz_law.proofs.nodes.is_started.Given as goal

abbrev pub invariant-loop-event : goal.invariant-loop-event
invariant-loop-event l = l.started ≡ last_told (stopped_or_started l.dn) true (take l.event-index l.story)
