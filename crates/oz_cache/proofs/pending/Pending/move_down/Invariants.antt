use Rattle.std.proofs.Common.{◌≡◌, ◌≤◌, length}
use Rattle.oz_rows.specs.declared.key.RowKey.{RowKey as AnyKey}
use Rattle.oz_rows.specs.RowMaps.{row_of, row_after}
use Rattle.oz_cache.specs.Cache.{batched_changes, epoch_after, up_to, later}
use Rattle.oz_cache.proofs.pending.Pending.move_down.Given as goal

-- what is left to move down makes of the tables what all of it makes of the old ones
abbrev pub invariant-loop-self : goal.invariant-loop-self
invariant-loop-self l =
    let left = up_to l.epoch l.self.batches in
    let all = up_to l.epoch l.fn.self.batches in
    record {
      rows : (key : AnyKey) → row_after (batched_changes left) key (row_of l.self.durable.rows key) ≡ row_after (batched_changes all) key (row_of l.fn.self.durable.rows key);
      last_index : epoch_after l.self.durable.last_index left ≡ epoch_after l.fn.self.durable.last_index all;
      later : later l.epoch l.self.batches ≡ later l.epoch l.fn.self.batches;
      spare : l.fn.self.spare ≤ l.self.spare;
    }

abbrev pub decreases-loop-self : goal.decreases-loop-self
decreases-loop-self l = length l.self.batches
