use Rattle.std.proofs.Common.{◌≡◌, take}
use Rattle.oz_core.specs.Manager.{durable_index}
use Rattle.oz_law.proofs.manager.durable_index.Given as goal

abbrev pub invariant-loop-event : goal.invariant-loop-event
invariant-loop-event l = l.last ≡ durable_index l.fn.opening (take l.event-index l.story)
