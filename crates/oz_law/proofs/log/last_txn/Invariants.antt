use Rattle.std.proofs.Common.{◌≡◌, take}
use Rattle.oz_core.specs.Scm.{last_txn}
use Rattle.oz_law.proofs.log.last_txn.Given as goal

abbrev pub invariant-loop-event : goal.invariant-loop-event
invariant-loop-event l = l.last ≡ last_txn l.fn.opening (take l.event-index l.story)
