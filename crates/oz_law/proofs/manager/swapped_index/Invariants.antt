use Rattle.std.proofs.Common.{◌≡◌, take}
use Rattle.oz_core.specs.Manager.{swapped_index}
use Rattle.oz_law.proofs.manager.swapped_index.Given as goal

abbrev pub invariant-loop-event : goal.invariant-loop-event
invariant-loop-event l = l.last ≡ swapped_index l.fn.opening (take l.event-index l.story)
