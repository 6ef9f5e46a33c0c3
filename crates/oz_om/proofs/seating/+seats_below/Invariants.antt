use Rattle.oz_om.proofs.seating.+seats_below.Given as goal

-- one fewer each time
abbrev pub decreases-seats_below : goal.decreases-seats_below
decreases-seats_below g l = l.count
