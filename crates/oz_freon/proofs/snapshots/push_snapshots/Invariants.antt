use Rattle.std.proofs.Common.{◌≡◌, ◌++◌}
use Rattle.oz_freon.specs.Script.{snapshot_line, texts_below}
use Rattle.oz_freon.proofs.snapshots.push_snapshots.Given as goal

abbrev pub invariant-loop-client : goal.invariant-loop-client
invariant-loop-client l = l.out.items ≡ l.fn.out.items ++ texts_below (snapshot_line l.number l.count) l.client
