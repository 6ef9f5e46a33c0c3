use Rattle.std.proofs.Common.{◌+◌, ◌*◌, length}
use Rattle.oz_script.specs.circles.Marks.{unmarked}
use Rattle.oz_script.proofs.circles_lemmas.Spreading.{IsSpread}
use Rattle.oz_script.proofs.circles.marking.mark_all.Given as goal

abbrev pub invariant-loop-top : goal.invariant-loop-top
invariant-loop-top l = IsSpread l.lines l.line l.initial.marks l.marks l.stack.items

abbrev pub decreases-loop-top : goal.decreases-loop-top
decreases-loop-top l = 2 * unmarked l.marks + length l.stack.items
