use Rattle.std.proofs.Common.{◌≡◌, sym, ◌∙◌, subst}
use Rattle.std.specs.List.{list_any}
use Rattle.oz_rows.specs.declared.key.RowKey.{RowKey}
use Rattle.oz_tables.specs.built.Steps.{operations_of, is_left}
use Rattle.oz_tables.specs.built.laws.Lefts.{volume_left}
use Rattle.oz_tables.proofs.built.needs.is_bucket_left.Goals as goal

pub returns : goal.returns
returns c =
    let items = operations_of c.args.steps.now in
    let rows = c.args.tables.now.rows in
    let among = c.in_ok-found.ensures in
    among.told ∙ sym (subst (λ (base : RowKey). list_any (is_left items base) rows ≡ list_any (is_left items base) among.part) (sym c.requires) (volume_left rows among.part items c.args.volume.now among.is))
