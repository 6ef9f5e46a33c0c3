use Rattle.oz_script.proofs.circles_lemmas.Passing.{IsPassed}
use Rattle.oz_script.proofs.circles.first.first_of.Given as goal

abbrev pub invariant-loop-place : goal.invariant-loop-place
invariant-loop-place l = IsPassed l.lines l.client l.marks.items l.place
