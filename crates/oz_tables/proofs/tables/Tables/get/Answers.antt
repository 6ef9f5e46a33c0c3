use Rattle.std.proofs.Common.{◌≡◌, option_copied, ◌∙◌, ap, subst}
use Rattle.std.specs.declared.cmp.Ordering.{Ordering}
use Rattle.oz_rows.specs.declared.key.RowKey.{RowKey}
use Rattle.oz_rows.specs.RowMaps.{row_of}
use Rattle.oz_sorted.specs.Sorted.{value_of}
use Rattle.oz_tables.specs.Tables.{TableView}
use Rattle.oz_tables.proofs.Views.{same_order, rows_are}
use Rattle.oz_tables.proofs.tables.Tables.get.Goals as goal

pub returns : goal.returns
returns c =
    let entries = c.self.inside.entries.entries in
    subst (λ (cmp : RowKey → RowKey → Ordering). option_copied c.get.result ≡ value_of cmp entries c.args.key.now) same_order c.get.ensures
    ∙ (λ i. rows_are entries i c.args.key.now)
    ∙ ap (λ (t : TableView). row_of t.rows c.args.key.now) c.self.view_is
