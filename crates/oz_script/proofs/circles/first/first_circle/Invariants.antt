use Rattle.oz_script.proofs.circles_lemmas.Passing.{IsFirstSo}
use Rattle.oz_script.proofs.circles.first.first_circle.Given as goal

abbrev pub invariant-loop-line : goal.invariant-loop-line
invariant-loop-line l = IsFirstSo l.lines l.line-index l.first
