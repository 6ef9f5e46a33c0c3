use Rattle.std.proofs.Common.{List, None, ◌∙◌, ap}
use Rattle.oz_rows.specs.declared.entry.RowEntry.{RowEntry}
use Rattle.oz_rows.specs.declared.operation.Change.{Change}
use Rattle.oz_rows.specs.RowMaps.{row_of, row_after}
use Rattle.oz_tables.specs.Tables.{TableView}
use Rattle.oz_loaded.proofs.Puts.{puts_part}
use Rattle.oz_loaded.proofs.parting.part_for.Goals as goal

pub returns : goal.returns
returns c = record {
  rows = λ key. ap (λ (tables : TableView). row_of tables.rows key) c.over.ensures.durable ∙ ap (λ (l : List RowEntry). row_of l key) c.reach.ensures.rows ∙ c.enter_all.ensures.rows key
      ∙ ap (λ (l : List RowEntry). row_after c.in_ok-changes.changes.items key (row_of l key)) (c.reserve.ensures.rows ∙ c.new-part.ensures.rows)
      ∙ ap (λ (changes : List Change). row_after changes key None) c.in_ok-changes.ensures
      ∙ puts_part c.args.stripe c.args.rows.now key c.requires.in_order;
  last_index_is = ap (λ (tables : TableView). tables.last_index) c.over.ensures.durable ∙ c.reach.ensures.last_index;
  entered = c.over.ensures.entered;
}
