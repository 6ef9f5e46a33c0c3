use Rattle.std.proofs.Common.{◌≡◌, ◌++◌, map, take}
use Rattle.oz_reclaim.specs.sweep.Homes.{home}
use Rattle.oz_reclaim.proofs.sweep.homes.add_homes.Given as goal

abbrev pub invariant-loop-block : goal.invariant-loop-block
invariant-loop-block l = l.homes.items ≡ l.fn.homes.items ++ map (home l.change.key) (take l.block-index l.blocks)
