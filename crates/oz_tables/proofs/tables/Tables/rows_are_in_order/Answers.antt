use Rattle.std.proofs.Common.{ap, subst}
use Rattle.std.specs.declared.cmp.Ordering.{Ordering}
use Rattle.oz_rows.specs.declared.key.RowKey.{RowKey}
use Rattle.oz_rows.specs.RowMaps.{KeysRise}
use Rattle.oz_sorted.specs.Sorted as map
use Rattle.oz_tables.specs.Tables.{TableView}
use Rattle.oz_tables.proofs.Views.{same_order, rise_is}
use Rattle.oz_tables.proofs.tables.Tables.rows_are_in_order.Goals as goal

pub returns : goal.returns
returns c =
    let entries = c.self.inside.entries.entries in
    let rise = subst (λ (cmp : RowKey → RowKey → Ordering). map.KeysRise cmp entries) same_order c.len-rows.ensures.in_order in
    subst KeysRise (ap (λ (t : TableView). t.rows) c.self.view_is) (rise_is entries rise)
