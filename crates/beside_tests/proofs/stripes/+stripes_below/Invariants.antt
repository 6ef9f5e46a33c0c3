use Rattle.beside_tests.proofs.stripes.+stripes_below.Given as goal

-- one fewer each time
abbrev pub decreases-stripes_below : goal.decreases-stripes_below
decreases-stripes_below g l = l.count
