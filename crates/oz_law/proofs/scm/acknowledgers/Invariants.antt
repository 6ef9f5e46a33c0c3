use Rattle.std.proofs.Common.{◌≡◌, ◌++◌, take}
use Rattle.oz_core.specs.Scm.{acknowledger, acknowledged_at_opening}
use Rattle.oz_core.specs.Stories.{all_told}
use Rattle.oz_law.proofs.scm.acknowledgers.Given as goal

abbrev pub invariant-loop-event : goal.invariant-loop-event
invariant-loop-event l = l.dns.items ≡ acknowledged_at_opening l.fn.opening l.number ++ all_told (acknowledger l.number) (take l.event-index l.story)
