use Rattle.std.proofs.Common.{◌≡◌, map, take}
use Rattle.oz_om.specs.Purging.{dated}
use Rattle.oz_om.proofs.purging.dates_of.Given as goal

-- the date of each row that was looked at
abbrev pub invariant-loop-row : goal.invariant-loop-row
invariant-loop-row l = l.dates.items ≡ map dated (take l.row-index l.found)
