use Rattle.oz_at_work.proofs.servers.seating.+seat_below.Given as goal

-- one fewer each time
abbrev pub decreases-seat_below : goal.decreases-seat_below
decreases-seat_below g l = l.count
