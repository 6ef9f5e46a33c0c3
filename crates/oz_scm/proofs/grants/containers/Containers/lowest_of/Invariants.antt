use Rattle.std.proofs.Common.{take}
use Rattle.oz_scm.specs.grants.Due.{MayTake}
use Rattle.oz_scm.specs.grants.Steps.{IsLowestOf}
use Rattle.oz_scm.proofs.grants.containers.Containers.lowest_of.Given as goal

abbrev pub invariant-loop-place : goal.invariant-loop-place
invariant-loop-place l = IsLowestOf (MayTake l.self.made.containers l.pipeline l.excluded) (take l.place l.numbers) l.lowest
