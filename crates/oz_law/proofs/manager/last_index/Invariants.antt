use Rattle.std.proofs.Common.{◌≡◌, take}
use Rattle.oz_core.specs.Manager.{last_index}
use Rattle.oz_law.proofs.manager.last_index.Given as goal

abbrev pub invariant-loop-event : goal.invariant-loop-event
invariant-loop-event l = l.last ≡ last_index l.fn.opening (take l.event-index l.story)
