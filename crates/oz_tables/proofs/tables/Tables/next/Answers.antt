use Rattle.std.proofs.Common.{◌∙◌, ap, subst, rules}
use Rattle.std.specs.declared.cmp.Ordering.{Ordering}
use Rattle.oz_rows.specs.declared.key.RowKey.{RowKey}
use Rattle.oz_rows.specs.RowMaps.{Rows, row_of, IsNext, HasNoNext}
use Rattle.oz_sorted.specs.Sorted as map
use Rattle.oz_tables.specs.Tables.{TableView}
use Rattle.oz_tables.proofs.Views.{same_order, rows_are, none_next, is_next, other_kind}
use Rattle.oz_tables.proofs.tables.Tables.next.Goals as goal

pub returns-in_err-found : goal.returns-in_err-found
returns-in_err-found c =
    let entries = c.self.inside.entries.entries in
    let key = c.args.key.now in
    let same = rows_are entries ∙ ap (λ (t : TableView). row_of t.rows) c.self.view_is in
    let none = subst (λ (cmp : RowKey → RowKey → Ordering). map.HasNoNext cmp (map.value_of cmp entries) key) same_order c.in_err-found.ensures.next in
    rw c.from_residual.ensures (subst (λ (rows : Rows). HasNoNext rows key) same (none_next _ key none))

pub returns-then-kind : goal.returns-then-kind
returns-then-kind c =
    let entries = c.self.inside.entries.entries in
    let key = c.args.key.now in
    let found = c.in_ok-found.found.now in
    let row = c.in_ok-found.row.now in
    let same = rows_are entries ∙ ap (λ (t : TableView). row_of t.rows) c.self.view_is in
    let next = subst (λ (cmp : RowKey → RowKey → Ordering). map.IsNext cmp (map.value_of cmp entries) key found row) same_order c.in_ok-found.ensures.next in
    subst (λ (rows : Rows). IsNext rows key found row) same (is_next _ key found row next (search rules))

pub returns-else-kind : goal.returns-else-kind
returns-else-kind c =
    let entries = c.self.inside.entries.entries in
    let key = c.args.key.now in
    let found = c.in_ok-found.found.now in
    let row = c.in_ok-found.row.now in
    let same = rows_are entries ∙ ap (λ (t : TableView). row_of t.rows) c.self.view_is in
    let next = subst (λ (cmp : RowKey → RowKey → Ordering). map.IsNext cmp (map.value_of cmp entries) key found row) same_order c.in_ok-found.ensures.next in
    subst (λ (rows : Rows). HasNoNext rows key) same (other_kind _ key found row next (λ kind. search rules))
