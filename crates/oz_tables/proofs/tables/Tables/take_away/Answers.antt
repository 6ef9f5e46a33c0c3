use Rattle.std.proofs.Common.{◌≡◌, Option, None, cond, sym, ◌∙◌, ap, subst}
use Rattle.std.specs.declared.cmp.Ordering.{Ordering}
use Rattle.oz_rows.specs.declared.key.RowKey.{RowKey}
use Rattle.oz_rows.specs.declared.row.Row.{Row}
use Rattle.oz_rows.specs.RowMaps.{row_of}
use Rattle.oz_rows.specs.RowMaps as rows
use Rattle.oz_sorted.specs.Sorted.{value_of, is_same}
use Rattle.oz_tables.specs.Tables.{TableView}
use Rattle.oz_tables.proofs.Views.{same_order, rows_are}
use Rattle.oz_tables.proofs.tables.Tables.take_away.Goals as goal

pub returns-clause-rows : goal.returns-clause-rows
returns-clause-rows c = λ other.
    let old = c.self.inside.entries.entries in
    let new = c.remove.new.self.entries in
    let test = rows.is_same c.args.key.now other in
    sym (λ i. rows_are new i other)
    ∙ subst
    (λ (cmp : RowKey → RowKey → Ordering). value_of cmp new other ≡ cond (is_same cmp c.args.key.now other) None (value_of cmp old other))
    same_order (c.remove.ensures.values other)
    ∙ ap (λ (row : Option Row). cond test None row) ((λ i. rows_are old i other) ∙ ap (λ (t : TableView). row_of t.rows other) c.self.view_is)
