use Rattle.std.proofs.Common.{◌≡◌, take, filter_map}
use Rattle.oz_dellog.specs.Index.{pending_at}
use Rattle.oz_dellog.proofs.log.pending_txns.Given as goal

abbrev pub invariant-loop-number : goal.invariant-loop-number
invariant-loop-number l = l.found.items ≡ filter_map (pending_at l.unretired l.dn) (take l.number-index l.numbers)
