use Rattle.oz_rows.specs.RowMaps.{row_of}
use Rattle.oz_cache.specs.Cache.{newest}
use Rattle.oz_cache.specs.Places.{found}
use Rattle.oz_cache.proofs.Ahead.{count_ahead}
use Rattle.oz_cache.proofs.Counting.{AnswersNext}
use Rattle.oz_cache.proofs.Next.{HasPassed, AreOver}
use Rattle.oz_cache.proofs.cached.Cached.next.Given as goal

abbrev pub invariant-loop-next : goal.invariant-loop-next
invariant-loop-next l = record {
  passed : HasPassed (newest l.self) l.key l.from;
  cached_next : AnswersNext (found l.rows.rows.entries) l.from l.next;
  over : AreOver (newest l.self) (row_of l.tables.rows) (found l.rows.rows.entries);
}

abbrev pub decreases-loop-next : goal.decreases-loop-next
decreases-loop-next l = count_ahead l.next l.rows.rows.entries
