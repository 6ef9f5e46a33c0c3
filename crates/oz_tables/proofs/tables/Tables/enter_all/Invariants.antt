use Rattle.std.proofs.Common.{◌≡◌, ◌+◌, ◌≤◌, length}
use Rattle.oz_rows.specs.declared.key.RowKey.{RowKey as AnyKey}
use Rattle.oz_rows.specs.RowMaps.{row_of, row_after}
use Rattle.oz_tables.proofs.tables.Tables.enter_all.Given as goal

-- what the changes that are left make of the rows is what all of them make of the old ones
abbrev pub invariant-loop-change : goal.invariant-loop-change
invariant-loop-change l =
    let left = l.change-iterator.rest.items in
    record {
      goes : (goal.iterator-loop-change).can_next l.change-iterator;
      ends : (goal.iterator-loop-change).is_finite l.change-iterator;
      rows : (key : AnyKey) → row_after left key (row_of l.self.rows key) ≡ row_after l.fn.changes.items key (row_of l.fn.self.rows key);
      last_index : l.self.last_index ≡ l.fn.self.last_index;
      room : length left ≤ l.self.spare;
      spare : l.fn.self.spare + length left ≤ l.self.spare + length l.fn.changes.items;
    }
