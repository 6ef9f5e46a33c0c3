use Rattle.std.proofs.Common.{◌≡◌, [], false, take}
use Rattle.oz_core.specs.Manager.{late_from}
use Rattle.oz_legal.proofs.manager_law.late.asked_late.Given as goal

abbrev pub invariant-loop-i : goal.invariant-loop-i
invariant-loop-i l = l.late ≡ late_from l.id [] false (take l.i l.story)
