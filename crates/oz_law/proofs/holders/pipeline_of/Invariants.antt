use Rattle.std.proofs.Common.{◌≡◌, take}
use Rattle.std.specs.FinMap.{get}
use Rattle.oz_core.specs.Scm.{containers}
use Rattle.oz_law.specs.Words.{pipeline_in}
use Rattle.oz_law.proofs.holders.pipeline_of.Given as goal

abbrev pub invariant-loop-event : goal.invariant-loop-event
invariant-loop-event l = l.pipeline ≡ pipeline_in (get (containers l.fn.opening (take l.event-index l.fn.story)) l.number)
