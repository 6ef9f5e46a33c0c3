use Rattle.std.proofs.Common.{◌≡◌, filter, take}
use Rattle.oz_model.specs.Buckets.{is_listed}
use Rattle.oz_model.proofs.keys.chosen.Given as goal

abbrev pub invariant-loop-name : goal.invariant-loop-name
invariant-loop-name l = l.found.items ≡ filter (is_listed l.prefix l.start) (take l.name-index l.names)
