use Rattle.std.proofs.Common.{◌≡◌, ◌+◌, ◌≤◌, ℕ, length}
use Rattle.oz_rows.specs.declared.key.RowKey.{RowKey as AnyKey}
use Rattle.oz_cache.specs.Linked.{AllBy}
use Rattle.oz_cache.specs.Places.{written_in, if_later}
use Rattle.oz_cache.proofs.newer.Newer.keep_after.Given as goal

abbrev pub invariant-loop : goal.invariant-loop
invariant-loop g l = record {
  rows : (key : AnyKey) → if_later l.epoch (written_in l.self.rows key) ≡ if_later l.epoch (written_in l.fn.self.rows key);
  ends : (limit : ℕ) → AllBy limit l.fn.self.epochs → AllBy limit l.self.epochs;
  spare : l.fn.self.spare ≤ l.self.spare;
  steps : l.steps + length l.self.epochs ≡ l.fn.steps + length l.fn.self.epochs;
}

abbrev pub decreases-loop : goal.decreases-loop
decreases-loop g l = length l.self.epochs
