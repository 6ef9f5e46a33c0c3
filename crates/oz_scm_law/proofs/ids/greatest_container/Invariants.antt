use Rattle.std.proofs.Common.{◌≡◌, take}
use Rattle.oz_core.specs.Scm.{greatest_container}
use Rattle.oz_scm_law.proofs.ids.greatest_container.Given as goal

abbrev pub invariant-loop-event : goal.invariant-loop-event
invariant-loop-event l = l.greatest ≡ greatest_container l.fn.opening (take l.event-index l.fn.story)
