use Rattle.std.proofs.Common.{take}
use Rattle.oz_reclaim.specs.Going.{AreKnown}
use Rattle.oz_reclaim.proofs.purging.are_known.Given as goal

abbrev pub invariant-loop-place : goal.invariant-loop-place
invariant-loop-place l = AreKnown (take l.place l.named) l.known
