use Rattle.std.proofs.Common.{ℕ, ◌<◌, get_or}
use Rattle.oz_core.specs.declared.event.Event.{Event}
use Rattle.oz_scm_law.specs.Words.{IsSpentIn}
use Rattle.oz_scm_law.proofs.needed.all_spent.Given as goal

abbrev pub invariant-loop-event : goal.invariant-loop-event
invariant-loop-event l = (k : ℕ) (d : Event) → k < l.event-index → IsSpentIn l.fn.opening l.fn.story l.stripe l.fn.exclude (get_or l.fn.story k d).kind
