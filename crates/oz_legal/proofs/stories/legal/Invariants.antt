use Rattle.std.proofs.Common.{take}
use Rattle.oz_core.specs.Law.{IsLegal}
use Rattle.oz_legal.proofs.stories.legal.Given as goal

abbrev pub invariant-loop-place : goal.invariant-loop-place
invariant-loop-place l = IsLegal l.opening (take l.place l.story)
