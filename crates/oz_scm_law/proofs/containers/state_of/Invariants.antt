use Rattle.std.proofs.Common.{◌≡◌, take}
use Rattle.std.specs.FinMap.{get}
use Rattle.oz_core.specs.Scm.{containers}
use Rattle.oz_scm_law.specs.Words.{state_in}
use Rattle.oz_scm_law.proofs.containers.state_of.Given as goal

abbrev pub invariant-loop-event : goal.invariant-loop-event
invariant-loop-event l = l.state ≡ state_in (get (containers l.fn.opening (take l.event-index l.fn.story)) l.number)
