use Rattle.std.proofs.Common.{◌≡◌, take}
use Rattle.oz_core.specs.Manager.{halt_of}
use Rattle.oz_law.proofs.manager.halt_of.Given as goal

abbrev pub invariant-loop-event : goal.invariant-loop-event
invariant-loop-event l = l.halt ≡ halt_of l.node (take l.event-index l.story)
