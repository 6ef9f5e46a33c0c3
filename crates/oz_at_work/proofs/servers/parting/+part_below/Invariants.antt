use Rattle.oz_at_work.proofs.servers.parting.+part_below.Given as goal

-- one fewer each time
abbrev pub decreases-part_below : goal.decreases-part_below
decreases-part_below g l = l.locked.now
