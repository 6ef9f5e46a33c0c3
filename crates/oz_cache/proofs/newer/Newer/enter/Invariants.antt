use Rattle.std.proofs.Common.{◌≡◌, ◌+◌, ◌≤◌, length}
use Rattle.oz_rows.specs.declared.key.RowKey.{RowKey as AnyKey}
use Rattle.oz_cache.specs.Linked.{AllBy}
use Rattle.oz_cache.specs.Places.{written_in, after_changes}
use Rattle.oz_cache.proofs.newer.Newer.enter.Given as goal

-- what the changes that are left make of the rows is what all of them make of the old ones
abbrev pub invariant-loop-change : goal.invariant-loop-change
invariant-loop-change l =
    let left = l.change-iterator.rest.items in
    record {
      goes : (goal.iterator-loop-change).can_next l.change-iterator;
      ends : (goal.iterator-loop-change).is_finite l.change-iterator;
      rows : (key : AnyKey) → after_changes l.epoch left key (written_in l.self.rows key) ≡ after_changes l.epoch l.fn.changes key (written_in l.fn.self.rows key);
      by_now : AllBy l.epoch l.self.epochs;
      room : length left ≤ l.self.spare;
      spare : l.fn.self.spare + length left ≤ l.self.spare + length l.fn.changes;
    }
