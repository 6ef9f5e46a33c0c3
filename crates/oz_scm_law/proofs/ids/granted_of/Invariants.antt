use Rattle.std.proofs.Common.{◌≡◌, ◌+◌, ◌*◌, ◌^◌, ◌<◌, take}
use Rattle.std.specs.FinMap.{get}
use Rattle.oz_core.specs.Scm.{containers}
use Rattle.oz_scm_law.specs.Words.{granted_to}
use Rattle.oz_scm_law.proofs.ids.granted_of.Given as goal

abbrev pub invariant-loop-event : goal.invariant-loop-event
invariant-loop-event l = record {
  is : l.granted ≡ granted_to (get (containers l.fn.opening (take l.event-index l.fn.story)) l.number);
  few : l.granted < 2 ^ 64 + 2 ^ 32 * l.event-index;
}
