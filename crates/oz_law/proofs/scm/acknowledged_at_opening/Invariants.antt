use Rattle.std.proofs.Common.{◌≡◌, ◌==◌, [], take, if◌then◌else◌}
use Rattle.std.specs.List.{flat_map}
use Rattle.oz_core.specs.declared.opening.Unretired.{Unretired}
use Rattle.oz_law.proofs.scm.acknowledged_at_opening.Given as goal

abbrev pub invariant-loop-unretired : goal.invariant-loop-unretired
invariant-loop-unretired l = l.dns.items ≡ flat_map (λ (unretired : Unretired). if unretired.txn.number == l.number then unretired.acknowledgers else []) (take l.unretired-index l.fn.opening.unretired)
