use Rattle.std.proofs.Common.{take}
use Rattle.oz_reclaim.specs.sweep.Filing.{IsGreatest}
use Rattle.oz_reclaim.proofs.sweep.marks.left_at.Given as goal

abbrev pub invariant-loop-entry : goal.invariant-loop-entry
invariant-loop-entry l = IsGreatest (take l.entry-index l.entries) l.block l.left
