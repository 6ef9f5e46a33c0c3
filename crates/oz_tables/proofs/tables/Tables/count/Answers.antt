use Rattle.std.proofs.Common.{◌∙◌, ap, subst}
use Rattle.std.specs.declared.cmp.Ordering.{Ordering}
use Rattle.oz_rows.specs.declared.key.RowKey.{RowKey}
use Rattle.oz_rows.specs.Counts.{IsCount}
use Rattle.oz_rows.specs.RowMaps.{Rows, row_of, KeysRise}
use Rattle.oz_sorted.specs.Counts as sorted
use Rattle.oz_sorted.specs.Sorted as map
use Rattle.oz_tables.specs.Tables.{TableView}
use Rattle.oz_tables.proofs.Views.{same_order, rows_are, rise_is, count_is}
use Rattle.oz_tables.proofs.tables.Tables.count.Goals as goal

pub returns-clause-count : goal.returns-clause-count
returns-clause-count c =
    let entries = c.self.inside.entries.entries in
    let from = c.args.from.now in
    let to = c.args.to.now in
    let count = subst (λ (cmp : RowKey → RowKey → Ordering). sorted.IsCount cmp (map.value_of cmp entries) from to c.count.result) same_order c.count.ensures.count in
    subst (λ (rows : Rows). IsCount rows from to c.count.result) (rows_are entries ∙ ap (λ (t : TableView). row_of t.rows) c.self.view_is) (count_is _ from to c.count.result count)

pub returns-clause-in_order : goal.returns-clause-in_order
returns-clause-in_order c =
    let entries = c.self.inside.entries.entries in
    let rise = subst (λ (cmp : RowKey → RowKey → Ordering). map.KeysRise cmp entries) same_order c.count.ensures.in_order in
    subst KeysRise (ap (λ (t : TableView). t.rows) c.self.view_is) (rise_is entries rise)
