use Rattle.std.proofs.Common.{◌+◌, ◌<◌, ◌^◌, length}
use Rattle.oz_cache.specs.Places.{found}
use Rattle.oz_cache.proofs.Ahead.{count_ahead}
use Rattle.oz_cache.proofs.Counting.{Counted}
use Rattle.oz_cache.proofs.cached.count_with.Given as goal

abbrev pub invariant-loop-next : goal.invariant-loop-next
invariant-loop-next l = record {
  counted : Counted l.tables.rows (found l.cached.rows.entries) l.from l.to l.next l.count;
  small : l.count + count_ahead l.next l.cached.rows.entries < 2 ^ 63 + length l.cached.rows.entries;
}

abbrev pub decreases-loop-next : goal.decreases-loop-next
decreases-loop-next l = count_ahead l.next l.cached.rows.entries
