use Rattle.std.proofs.Common.{◌≡◌, flat_map, take}
use Rattle.oz_reclaim.specs.sweep.Homes.{homes_in}
use Rattle.oz_reclaim.proofs.sweep.homes.homes_of.Given as goal

abbrev pub invariant-loop-change : goal.invariant-loop-change
invariant-loop-change l = l.homes.items ≡ flat_map homes_in (take l.change-index l.changes)
