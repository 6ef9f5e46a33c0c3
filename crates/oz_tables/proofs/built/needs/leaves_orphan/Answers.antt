use Rattle.std.proofs.Common.{◌≡◌, None, List, rules}
use Rattle.oz_rows.specs.declared.entry.RowEntry.{RowEntry}
use Rattle.oz_rows.specs.RowMaps.{row_of}
use Rattle.oz_tables.specs.built.Steps.{operations_of}
use Rattle.oz_tables.specs.built.laws.Lefts.{left_told}
use Rattle.oz_effects.specs.changes.laws.Results.{if_ok}
use Rattle.oz_tables.proofs.built.needs.leaves_orphan.Goals as goal

pub returns-in-Volume : goal.returns-in-Volume
returns-in-Volume c =
    let rows : List RowEntry = c.args.tables.now.rows in
    let absent : row_of rows c.args.base.now ≡ None = search rules in
    if_ok c.is_bucket_left.result _ _ c.is_bucket_left.ensures (λ found told. left_told rows (operations_of c.args.steps.now) c.args.base.now found c.rows_are_in_order.ensures absent told)

pub returns-in-Bucket : goal.returns-in-Bucket
returns-in-Bucket c =
    let rows : List RowEntry = c.args.tables.now.rows in
    let absent : row_of rows c.args.base.now ≡ None = search rules in
    if_ok c.is_content_left.result _ _ c.is_content_left.ensures (λ found told. left_told rows (operations_of c.args.steps.now) c.args.base.now found c.rows_are_in_order.ensures absent told)
