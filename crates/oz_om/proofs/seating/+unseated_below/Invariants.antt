use Rattle.oz_om.proofs.seating.+unseated_below.Given as goal

-- one fewer each time
abbrev pub decreases-unseated_below : goal.decreases-unseated_below
decreases-unseated_below g l = l.count
