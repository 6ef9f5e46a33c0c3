use Rattle.std.proofs.Common.{◌≡◌, take}
use Rattle.oz_core.specs.Scm.{next_id}
use Rattle.oz_scm_law.proofs.ids.next_id.Given as goal

abbrev pub invariant-loop-event : goal.invariant-loop-event
invariant-loop-event l = l.next ≡ next_id l.fn.opening (take l.event-index l.story)
