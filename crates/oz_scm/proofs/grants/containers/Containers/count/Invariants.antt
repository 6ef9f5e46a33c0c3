use Rattle.std.proofs.Common.{◌≡◌, ◌≤◌, take}
use Rattle.oz_scm.specs.grants.Counts.{count_in}
use Rattle.oz_scm.proofs.grants.containers.Containers.count.Given as goal

abbrev pub invariant-loop-at : goal.invariant-loop-at
invariant-loop-at l = (l.count ≡ count_in l.fn.state (take l.at l.self.made.containers)) × (l.count ≤ l.at)
