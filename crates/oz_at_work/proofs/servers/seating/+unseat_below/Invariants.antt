use Rattle.oz_at_work.proofs.servers.seating.+unseat_below.Given as goal

-- one fewer each time
abbrev pub decreases-unseat_below : goal.decreases-unseat_below
decreases-unseat_below g l = l.count
