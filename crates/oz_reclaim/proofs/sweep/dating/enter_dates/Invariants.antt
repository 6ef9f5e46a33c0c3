use Rattle.std.proofs.Common.{◌≡◌, ◌≤◌, length}
use Rattle.oz_reclaim.specs.sweep.Dates.{date_in}
use Rattle.oz_reclaim.specs.sweep.Filing.{dates_after}
use Rattle.oz_rows.specs.declared.key.RowKey.{RowKey}
use Rattle.oz_reclaim.proofs.sweep.dating.enter_dates.Given as goal

-- what the changes that are left make of the dates is what all of them make of the old ones
abbrev pub invariant-loop-change : goal.invariant-loop-change
invariant-loop-change l =
    let left = l.change-iterator.rest.items in
    record {
      goes : (goal.iterator-loop-change).can_next l.change-iterator;
      ends : (goal.iterator-loop-change).is_finite l.change-iterator;
      dates : (key : RowKey) → dates_after left key (date_in l.dates.entries key) ≡ dates_after l.fn.changes.items key (date_in l.fn.dates.entries key);
      room : length left ≤ l.dates.spare;
    }
