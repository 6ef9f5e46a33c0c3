use Rattle.std.proofs.Common.{take}
use Rattle.oz_journal.specs.Body.{bodies_in}
use Rattle.oz_scm.specs.grants.Build.{Makes}
use Rattle.oz_scm.specs.grants.Steps.{made_in}
use Rattle.oz_scm.proofs.grants.building.build.Given as goal

abbrev pub invariant-loop-count : goal.invariant-loop-count
invariant-loop-count l = Makes (bodies_in (take l.count l.bodies)) (made_in l.found)
