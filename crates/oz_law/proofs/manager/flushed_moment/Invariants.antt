use Rattle.std.proofs.Common.{◌≡◌, take}
use Rattle.oz_core.specs.Manager.{flushed_moment}
use Rattle.oz_law.proofs.manager.flushed_moment.Given as goal

abbrev pub invariant-loop-event : goal.invariant-loop-event
invariant-loop-event l = l.last ≡ flushed_moment (take l.event-index l.story)
